-- The claim in both editions: 40 puts, and a store of all 40 variables, which takes 20 blocks of three fields and 7 of seven.
use Rattle.std.specs.Prelude.{[], ◌∷◌, ◌≡◌, refl, length}
use Rattle.records.specs.declared.order.Order.TheVariants.{Store}
use Rattle.records.specs.Bytes.{le}
use Rattle.records.specs.Contexts.{binding_bytes}
use Rattle.records.specs.Orders.{order_bytes, record_of}
use Rattle.layout.specs.Config.{base, second}
use Rattle.heap.specs.Values.{object, nil, cons}
use Rattle.memory.specs.Objects.{object_sizes}
use Rattle.soundness.specs.Claims.{Item, values, After}
use Rattle.soundness.specs.Example.{below, item}
use Rattle.soundness.specs.Puts.{puts, sevens}

unfoldable pub store_forty : Item
unfolding below order_bytes binding_bytes le
store_forty = item (record_of (Store 40 9)) ([]) refl refl

pub record FortyAreSoundInBoth : Type 0 where
  -- the blocks that the store acquires
  pub first_blocks : length (object_sizes base 40) ≡ 20
  pub second_blocks : length (object_sizes second 40) ≡ 7
  -- on two blocks more
  pub first_values : values base 22 (store_forty ∷ puts 40) ≡ cons (object 9 (sevens 40)) nil
  pub first_after : After base 22 (store_forty ∷ puts 40)
  pub second_values : values second 9 (store_forty ∷ puts 40) ≡ cons (object 9 (sevens 40)) nil
  pub second_after : After second 9 (store_forty ∷ puts 40)
