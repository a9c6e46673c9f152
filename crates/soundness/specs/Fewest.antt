-- The peak against the blocks acquired: a list that acquires three blocks and stays sound on three; and that one block fewer than the peak's two more is too few.
-- put 7, and three times: store 1 with tag 5, load.
use Rattle.std.specs.Prelude.{List, [], ◌∷◌, ◌≡◌}
use Rattle.soundness.specs.Claims.{Item, values, acquired, PeakWithin, After}
use Rattle.soundness.specs.Example.{put_seven, store_one, load_released}
use Rattle.layout.specs.Config.{base}
use Rattle.heap.specs.Values.{integer, nil, cons}

-- newest first
abbrev pub season : List Item
season = load_released ∷ store_one ∷ load_released ∷ store_one ∷ load_released ∷ store_one ∷ put_seven ∷ []

pub record SeasonIsSound : Type 0 where
  pub acquires_three : acquired base 3 season ≡ 3
  pub one_at_once : PeakWithin base 3 1 season
  pub plain_values : values base 3 season ≡ cons (integer 7) nil
  pub after : After base 3 season
