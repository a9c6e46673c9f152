-- The claim in the frame of 512 spills: 200 puts, for which the smaller frame has no positions, and a store of all 200 variables.
use Rattle.std.specs.Prelude.{[], ◌∷◌, ◌≡◌, refl}
use Rattle.records.specs.declared.order.Order.TheVariants.{Store}
use Rattle.records.specs.Bytes.{le}
use Rattle.records.specs.Contexts.{binding_bytes}
use Rattle.records.specs.Orders.{order_bytes, record_of}
use Rattle.layout.specs.Config.{base, larger}
use Rattle.heap.specs.Values.{object, nil, cons}
use Rattle.order_spec.specs.Answered.{order_answer_cause, answer_to}
use Rattle.soundness.specs.Claims.{Item, reached, values, After}
use Rattle.soundness.specs.Example.{below, item, put_seven}
use Rattle.soundness.specs.Puts.{puts, sevens}

unfoldable pub store_all : Item
unfolding below order_bytes binding_bytes le
store_all = item (record_of (Store 200 9)) ([]) refl refl

-- on 102 blocks: 100 are acquired
pub record LargerListIsSound : Type 0 where
  pub plain_values : values larger 102 (store_all ∷ puts 200) ≡ cons (object 9 (sevens 200)) nil
  pub after : After larger 102 (store_all ∷ puts 200)
  -- the smaller frame takes 133 puts, and the next is 8; this one takes 261
  pub held_in_smaller : values base 2 (puts 133) ≡ sevens 133
  pub refused_in_smaller : order_answer_cause (answer_to base (reached base 2 (puts 133)).context put_seven.asked) ≡ 8 ∷ []
  pub held_in_larger : values larger 2 (puts 261) ≡ sevens 261
  pub refused_in_larger : order_answer_cause (answer_to larger (reached larger 2 (puts 261)).context put_seven.asked) ≡ 8 ∷ []
