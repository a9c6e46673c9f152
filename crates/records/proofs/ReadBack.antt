-- Records are read back as they were written, and written again as they were read: lists of instructions, contexts and orders.
use Rattle.records.specs.Checked.{malformed}
use Rattle.std.specs.Prelude.{Err, Ok}
use Prim.Native.Nat.{ℕ, ◌≤◌, min}
use mathlib.Core.Path.{◌≡◌, refl}
use mathlib.Core.Bool.{Bool, true, false, cond}
use mathlib.Core.List.{List, [], append-nil}
use native.Mathlib.Omega.{arith}
use lib.Dec.{eqb}
use lib.ListN.{length, drop_of_length-le}
use borrow.Author.Tests.{eqb-true}
use Rattle.records.specs.declared.code.Code.TheVariants.{RET}
use Rattle.records.specs.declared.binding.Binding.{Binding}
use Rattle.records.specs.declared.order.Order.{Order}
use Rattle.records.specs.Instructions.{code_at}
use Rattle.records.specs.Contexts.{binding_bytes, binding_in, checked_context}
use Rattle.records.specs.Orders.{order_fields_of, order_bytes, order_starts, order_read}
use Rattle.records.specs.ReadBack.{Each, Bytes, joined, items, WellFormedOrder, WellFormedBinding, RecordsReadBack}
use Rattle.records.proofs.Joined.{starts_at, item_at_lem, joined_length, accepted, each_written, written}
use Rattle.records.proofs.ContextsRead as contexts
use Rattle.records.proofs.CodesBack.{code_laws}
use Rattle.records.proofs.BindingsBack.{binding_laws}
use Rattle.records.proofs.OrdersBack.{order_laws}

order_reads : (o : Order) → WellFormedOrder o → order_read (order_bytes (order_fields_of o)) ≡ Ok o
unfolding order_read
order_reads o w =
    let starts = rw append-nil at (order_laws.good o [] w) in
    let item = rw append-nil at (order_laws.same o [] w) in
    rw (starts, order_laws.long o, item)

whole : {o p : Order} (b c : Bool) → cond b (cond c (Ok p) (Err (malformed 2))) (Err (malformed 1)) ≡ Ok o → (b ≡ true) × (c ≡ true) × (p ≡ o)
whole true true e = (refl, refl, cc)
whole true false e = (cc, cc, cc)
whole false c e = (cc, cc, cc)

order_written : (s : List ℕ) (o : Order) → Bytes s → order_read s ≡ Ok o → order_bytes (order_fields_of o) ≡ s
unfolding order_read
order_written s o bytes e =
    let w = whole (order_starts s) (eqb (length s) 24) e in
    let n = eqb-true (length s) 24 w.1 in
    let h : length s ≤ 24 = omega arith in
    rw (← w.2) (rw (drop_of_length-le s h, append-nil) at (order_laws.back s w.0 bytes))

context_accepted : (bs : List Binding) → Each WellFormedBinding bs → length bs ≤ 4096 → checked_context (joined binding_bytes bs) ≡ Ok (length bs)
context_accepted bs each h =
    contexts.is_accepted_lem (joined binding_bytes bs)
    (record {
      long = joined_length binding_laws bs;
      within = h;
      each = λ k l. rw append-nil at (starts_at binding_laws bs [] k (binding_in []) each l);
    })

context_written : (n : ℕ) (s : List ℕ) → Bytes s → checked_context s ≡ Ok n → joined binding_bytes (items 8 binding_in n s) ≡ s
context_written n s bytes e = let b = contexts.whole s e in each_written binding_laws n s bytes (omega (arith, b.long)) b.each

pub records_read_back : RecordsReadBack
unfolding code_at
records_read_back =
    record {
      codes_read = λ cs each rest k h. rw (starts_at code_laws cs rest k RET each h, item_at_lem code_laws cs rest k RET each h);
      codes_accepted = λ cs each most h. accepted code_laws (min most 65536) cs each h (rw (joined_length code_laws cs) (omega arith));
      codes_written = λ most n s bytes e. written code_laws (min most 65536) n s bytes (omega arith) e;
      bindings_start = λ bs each rest k h. starts_at binding_laws bs rest k (binding_in []) each h;
      bindings_read = λ bs each rest k d h. item_at_lem binding_laws bs rest k d each h;
      context_accepted = context_accepted;
      context_written = context_written;
      order_reads = order_reads;
      order_written = order_written;
    }
