use mathlib.Core.Path.{refl}
use native.Mathlib.Omega.{arith}
use Rattle.records.specs.Bytes.{le, number}
use Rattle.records.specs.Orders.{order_bytes, order_in, order_of, order_readers, order_ok, order_operands_ok, used_by_order, order_starts}
use Rattle.layout.specs.Config.{base, larger}
use Rattle.layout.proofs.Placing.{base_supported, larger_supported}
use Rattle.order_spec.specs.Plain.{plainly}
use Rattle.soundness.proofs.AllStored.{held, next_refused, Stores, all_stored, after_all}
use Rattle.soundness.specs.Larger.{store_all, LargerListIsSound}
use Rattle.soundness.proofs.larger_list_is_sound.Goals as goal

stores_all : Stores 200 9 store_all
unfolding store_all order_bytes le number order_in order_of order_readers order_ok order_operands_ok used_by_order order_starts
stores_all = record { is_order = refl; starts = refl; whole = refl; alone = refl; from_0 = refl; room_of_records = refl; room_of_context = refl }

holds : LargerListIsSound
unfolding plainly
holds =
    record {
      plain_values = all_stored larger larger_supported store_all stores_all (omega arith) (omega arith) (omega arith) 102 (omega arith) (omega arith) refl;
      after = after_all larger larger_supported store_all stores_all (omega arith) (omega arith) (omega arith) 102 (omega arith) (omega arith);
      held_in_smaller = held base base_supported 2 (omega arith) (omega arith) 133 (omega arith);
      refused_in_smaller = next_refused base base_supported 2 (omega arith) (omega arith);
      held_in_larger = held larger larger_supported 2 (omega arith) (omega arith) 261 (omega arith);
      refused_in_larger = next_refused larger larger_supported 2 (omega arith) (omega arith);
    }

pub returns : goal.returns
returns c = holds
