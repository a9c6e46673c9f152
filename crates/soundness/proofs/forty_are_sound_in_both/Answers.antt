use mathlib.Core.Path.{refl}
use native.Mathlib.Omega.{arith}
use Rattle.records.specs.Bytes.{le, number}
use Rattle.records.specs.Orders.{order_bytes, order_in, order_of, order_readers, order_ok, order_operands_ok, used_by_order, order_starts}
use Rattle.layout.specs.Config.{base, second}
use Rattle.layout.proofs.Placing.{base_supported, second_supported}
use Rattle.order_spec.specs.Plain.{plainly}
use Rattle.soundness.proofs.AllStored.{Stores, all_stored, after_all}
use Rattle.soundness.specs.Second.{store_forty, FortyAreSoundInBoth}
use Rattle.soundness.proofs.forty_are_sound_in_both.Goals as goal

stores_forty : Stores 40 9 store_forty
unfolding store_forty order_bytes le number order_in order_of order_readers order_ok order_operands_ok used_by_order order_starts
stores_forty = record { is_order = refl; starts = refl; whole = refl; alone = refl; from_0 = refl; room_of_records = refl; room_of_context = refl }

holds : FortyAreSoundInBoth
unfolding plainly
holds =
    record {
      first_blocks = refl;
      second_blocks = refl;
      first_values = all_stored base base_supported store_forty stores_forty (omega arith) (omega arith) (omega arith) 22 (omega arith) (omega arith) refl;
      first_after = after_all base base_supported store_forty stores_forty (omega arith) (omega arith) (omega arith) 22 (omega arith) (omega arith);
      second_values = all_stored second second_supported store_forty stores_forty (omega arith) (omega arith) (omega arith) 9 (omega arith) (omega arith) refl;
      second_after = after_all second second_supported store_forty stores_forty (omega arith) (omega arith) (omega arith) 9 (omega arith) (omega arith);
    }

pub returns : goal.returns
returns c = holds
