-- The four operations on the channel with an object, by the claim.
use mathlib.Core.Path.{◌≡◌, refl}
use Prim.Native.Nat.{ℕ, ◌+◌, ◌≤◌}
use native.Mathlib.Omega.{arith}
use lib.ListN.{length}
use Rattle.records.specs.declared.binding.Kind.TheVariants.{Ext}
use Rattle.records.specs.Bytes.{le, number}
use Rattle.records.specs.Contexts.{binding_bytes, first_flaw, checked_context}
use Rattle.records.specs.Orders.{order_bytes, order_in, order_of, order_readers, order_ok, order_operands_ok, used_by_order, order_starts}
use Rattle.records.specs.Names.{most_count}
use Rattle.layout.specs.Config.{base, stack_offset}
use Rattle.layout.proofs.Placing.{base_supported}
use Rattle.layout.specs.Positions.{location, operand_ok}
use Rattle.emit.specs.Answers.{granted}
use Rattle.memory.specs.Answered.{erase_answer, share_answer, store_answer}
use Rattle.memory.specs.LoadAnswered.{load_answer}
use Rattle.memory.specs.Objects.{object_sizes}
use Rattle.heap.specs.Values.{integer, object, nil, cons}
use Rattle.order_spec.specs.Answered.{answer_to}
use Rattle.order_spec.specs.Plain.{plainly}
use Rattle.order_spec.specs.Writes.{made, tree_of, context_after, present, kinds_ok, asked}
use Rattle.soundness.specs.Claims.{values, acquired, AllOwed}
use Rattle.soundness.specs.Operations.{MemoryDoes, OperationsDoWhatTheyNameOnAcquired}
use Rattle.soundness.proofs.Operating.{operations_do_what_they_name_on_acquired}
use Rattle.soundness.specs.Example.{put_seven, store_one}
use Rattle.soundness.specs.Operated.{one_stored, WorkedOperations}

one : acquired base 4 one_stored ≡ 1
unfolding answer_to order_bytes le number checked_context first_flaw binding_bytes order_in order_of order_readers order_ok order_operands_ok used_by_order order_starts tree_of context_after present kinds_ok asked plainly location stack_offset put_seven store_one
one = refl

plain : values base 4 one_stored ≡ cons (object 5 (cons (integer 7) nil)) nil
unfolding answer_to order_bytes le number checked_context first_flaw binding_bytes order_in order_of order_readers order_ok order_operands_ok used_by_order order_starts tree_of context_after present kinds_ok asked plainly location stack_offset put_seven store_one
plain = refl

owed : AllOwed base 4 one_stored
unfolding put_seven store_one order_bytes le number order_of order_in order_readers
owed = ((λ e. (tt, tt)), ((λ e. (tt, tt)), tt))

pub worked_operations : WorkedOperations
unfolding OperationsDoWhatTheyNameOnAcquired answer_to order_bytes le number checked_context first_flaw binding_bytes order_in order_of order_readers order_ok order_operands_ok used_by_order order_starts tree_of context_after present kinds_ok asked plainly location stack_offset put_seven store_one store_answer load_answer share_answer erase_answer granted operand_ok
worked_operations = record {
  plain_values = plain;
  stored = λ words. (does words).stores 1 (omega (arith, one)) refl;
  loaded = λ words. (does words).loads (made Ext 0) (refl, (refl, tt)) refl;
  shared = λ words. (does words).shares 0 most_count (omega arith) refl refl;
  erased = λ words. (does words).erases 0 (omega arith) refl refl;
}
  where
    does : (words : ℕ → ℕ) → MemoryDoes base 4 one_stored (λ n. 2 + (length (object_sizes base n) + acquired base 4 one_stored) ≤ 4) words 0 1000000
    does words = operations_do_what_they_name_on_acquired base base_supported 4 one_stored (omega (arith, one)) (omega arith) owed words 0 1000000
