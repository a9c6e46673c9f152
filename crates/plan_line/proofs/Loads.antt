-- The kinds of a load, word by word.
use Rattle.std.specs.Prelude.{Err, Ok, Some}
use Prim.Native.Nat.{ℕ, ◌+◌, ◌≤◌, ◌<◌}
use mathlib.Core.Path.{◌≡◌, refl}
use mathlib.Core.Bool.{true, false}
use mathlib.Core.List.{List, [], ◌∷◌}
use native.Mathlib.Numerals.{add-one}
use borrow.Author.Tests.{lt-ltb, le-ltb}
use Rattle.records.specs.declared.order.Order.TheVariants.{Load}
use Rattle.plan_line.specs.declared.wrong.Wrong.TheVariants.{NotKind}
use Rattle.plan_line.specs.Orders.{Words, is_kind, load_of, load_line}

module _ (n : ℕ) {ws : Words} where
  pub load_ends : ws ≡ [] → load_line n ws ≡ Ok (Some (Load n))
  unfolding load_line
  load_ends e = rw e

  module _ {w : List ℕ} {rest : Words} (e : ws ≡ w ∷ rest) (h : n < 4096) where
    pub other_kind : is_kind w ≡ false → load_line n ws ≡ Err NotKind
    unfolding load_line
    other_kind f = rw (e, lt-ltb n 4096 h, f)

    pub kind_on : is_kind w ≡ true → load_line n ws ≡ load_line (n + 1) rest
    unfolding load_line
    kind_on f = rw (e, lt-ltb n 4096 h, f, add-one)

pub all_counted : (n : ℕ) (ws : Words) → 4096 ≤ n → load_line n ws ≡ load_of n ws
unfolding load_line load_of
all_counted n [] h = refl
all_counted n (w ∷ ws) h = rw (le-ltb n 4096 h)
