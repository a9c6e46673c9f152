-- What is put for an order is what its calls write.
use Prim.Native.Nat.{ℕ, ◌+◌, ◌*◌, ◌≤◌, ◌<◌}
use mathlib.Core.Bool.{Bool, true, false, cond}
use mathlib.Core.List.{List, [], ◌∷◌, ◌++◌, append-nil}
use mathlib.Core.Path.{◌≡◌, refl, sym, ◌∙◌, ap}
use native.Mathlib.Omega.{arith}
use borrow.Author.Tests.{ltb-true, lt-ltb}
use Rattle.records.specs.declared.order.Order.{Order}
use Rattle.records.specs.declared.order.Order.TheVariants.{Put, Compute, Copy, Drop, Store, Load, Print}
use Rattle.records.specs.Contexts.{ext_at}
use Rattle.records.specs.Orders.{order_read}
use Rattle.layout.specs.declared.config.Shape.{Shape}
use Rattle.layout.specs.Config.{Supported, positions}
use Rattle.print_i64.specs.Print.{print_name}
use Rattle.heap.specs.Orders.{HeapState}
use Rattle.heap.specs.Values.{Values, count_of, value_at}
use Rattle.memory_proof.proofs.Shown.{heap_of}
use Rattle.order_spec.specs.Answered.{order_is, places_in}
use Rattle.order_spec.specs.Plain.{integer_of}
use Rattle.order_spec.specs.Writes.{present, kinds_ok, asked}
use Rattle.order_spec.proofs.Accepting.{Taken, taken}
use Rattle.channel_step.specs.Playing.{Channel, is_accepted, run_of}
use Rattle.report_state.specs.Prints.{printed_text, word_of, prints_of, prints}
use Rattle.soundness.specs.Claims.{Item, reached, values, calls_of, Ran, SoundAt, SoundChannel, SoundBefore, AllRan}
use Rattle.soundness.proofs.Carried.{places_are}
use Rattle.soundness.proofs.Changing.{integer_there}
use Rattle.soundness.specs.Prints.{call_texts, put_for, called_for, put_in, called_in, PrintedIsCalled}
use Rattle.machine.specs.Run.{starting}

-- an accepted order on a sound channel
module _ {g : Shape} (sup : Supported g) {blocks : ℕ} {past : List HeapState} {ch : Channel} {vs : Values} (it : Item) (s : SoundAt g blocks past ch vs) (t : Taken g ch.context it.asked (count_of vs)) where
  abbrev put : Order → List ℕ
  put o = prints_of g ch.view.reg ch.view.stk o

  put_is : prints g ch.view.reg ch.view.stk (order_read it.asked.order) ≡ put (order_is it.asked)
  unfolding prints order_read
  put_is = rw (t.starts, t.alone)

  called_is : (o : Order) → order_is it.asked ≡ o → put o ≡ call_texts (calls_of o vs)
  unfolding prints_of word_of present kinds_ok asked
  called_is (Put value) e = refl
  called_is (Compute operation a b) e = refl
  called_is (Copy a n) e = refl
  called_is Drop e = refl
  called_is (Store n tag) e = refl
  called_is (Load n) e = refl
  called_is (Print newline a) e =
      let k : places_in ch.context ≡ count_of vs = places_are ch.context (count_of vs) s.places in
      let h : a < count_of vs = ltb-true a (count_of vs) (rw e at t.there) in
      let x : ext_at ch.context a ≡ true = rw e at t.of_kind in
      let p : 2 * a + 2 ≤ positions g = rw e at t.placed in
      let w : word_of ch.view.reg ch.view.stk a ≡ integer_of (value_at a vs) = integer_there g (heap_of g (starting ch.view)).fields s.heap.beyond.links.linked (ext_at ch.context) (starting ch.view) vs (rw k at s.heap.beyond.links.holds) s.kinds a h x in
      rw (lt-ltb (2 * a + 1) (positions g) (omega arith), w) (texts newline (integer_of (value_at a vs)))
    where
      texts : (newline : Bool) (number : ℕ) → printed_text newline number ≡ call_texts (record { name = print_name newline; number = number } ∷ [])
      texts true number = sym (append-nil (printed_text true number))
      texts false number = sym (append-nil (printed_text false number))

pub printed_is_called : PrintedIsCalled
unfolding PrintedIsCalled
printed_is_called g sup blocks its a = along its a.sound_before a.ran
  where
    same : (it : Item) (its : List Item) → SoundChannel g blocks its → (is_accepted g (reached g blocks its) it.asked ≡ true → Ran g (reached g blocks its) (values g blocks its) it) → put_for g (reached g blocks its) it ≡ called_for g (reached g blocks its) it
    same it its s r = by (is_accepted g (reached g blocks its) it.asked) refl
      where
        by : (q : Bool) → is_accepted g (reached g blocks its) it.asked ≡ q
            → cond q (prints g (reached g blocks its).view.reg (reached g blocks its).view.stk (order_read it.asked.order)) [] ≡ cond q (call_texts (run_of g (reached g blocks its) it.asked it.words).last.calls) []
        by false e = refl
        by true e =
            let t = taken g (reached g blocks its).context it.asked (count_of (values g blocks its)) s.places e in
            put_is sup it s t ∙ called_is sup it s t (order_is it.asked) refl ∙ ap call_texts (sym (r e).calls)

    along : (its : List Item) → SoundBefore g blocks its → AllRan g blocks its → put_in g blocks its ≡ called_in g blocks its
    along [] s r = refl
    along (it ∷ its) s r = ap (λ (x : List ℕ). x ++ put_for g (reached g blocks its) it) (along its s.1 r.1) ∙ ap (λ (x : List ℕ). called_in g blocks its ++ x) (same it its s.0 r.0)
