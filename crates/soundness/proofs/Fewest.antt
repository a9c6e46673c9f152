-- The season's list on three blocks; and put 7 and store 1 on two blocks: one is reachable, so that the frontier would be past the heap.
use Rattle.std.specs.Prelude.{Err}
use mathlib.Core.List.{List, [], ◌∷◌}
use mathlib.Core.Logic.{◌≢◌}
use mathlib.Core.Path.{◌≡◌, refl, ◌∙◌, ap}
use Prim.Native.Nat.{ℕ, ◌+◌, ◌≤◌}
use native.Mathlib.Omega.{arith}
use Rattle.records.specs.Bytes.{le, number}
use Rattle.records.specs.Contexts.{binding_bytes, first_flaw, checked_context}
use Rattle.records.specs.Orders.{order_bytes, order_in, order_of, order_readers, order_ok, order_operands_ok, used_by_order, order_starts}
use Rattle.layout.specs.Config.{base, stack_offset}
use Rattle.layout.proofs.Placing.{base_supported}
use Rattle.layout.specs.Positions.{location}
use Rattle.machine.specs.declared.run.Stop.TheVariants.{Fault}
use Rattle.heap.specs.Blocks.{Cell, pointers}
use Rattle.heap.proofs.CountingLemmas.{same_self, same_other, occ_length}
use Rattle.heap.proofs.GrowthLemmas.{nothing_led}
use Rattle.heap.specs.Reachability.{start, ReachableCount}
use Rattle.heap.proofs.SoundLemmas.{frontier_unique}
use Rattle.heap.specs.Values.{integer, object, nil, cons, lengths, Object, HoldAll}
use Rattle.memory.specs.Objects.{object_sizes}
use Rattle.order_spec.specs.Answered.{answer_to}
use Rattle.order_spec.specs.Plain.{plainly}
use Rattle.order_spec.specs.Writes.{tree_of, context_after, present, kinds_ok, asked}
use Rattle.soundness.specs.Claims.{Item, reached, values, acquired, AllOwed, PeakWithin, state_after, Ran, AllRan, HeapStaysSound}
use Rattle.soundness.specs.Peak.{NoFault, Unfaulted, OneFewerIsTooFew}
use Rattle.soundness.specs.Example.{put_seven, store_one, load_released}
use Rattle.soundness.proofs.Induction.{heap_stays_sound, left_by_runs}
use Rattle.soundness.specs.Fewest.{season, SeasonIsSound}
use Rattle.channel_step.specs.Playing.{run_of}

three : acquired base 3 season ≡ 3
unfolding answer_to order_bytes le number checked_context first_flaw binding_bytes order_in order_of order_readers order_ok order_operands_ok used_by_order order_starts tree_of context_after present kinds_ok asked plainly location stack_offset put_seven store_one load_released
three = refl

plain : values base 3 season ≡ cons (integer 7) nil
unfolding answer_to order_bytes le number checked_context first_flaw binding_bytes order_in order_of order_readers order_ok order_operands_ok used_by_order order_starts tree_of context_after present kinds_ok asked plainly location stack_offset put_seven store_one load_released
plain = refl

-- an integer variable leads nowhere
none_led : (fields : ℕ → List Cell) (count : ℕ) → ReachableCount fields (0 ∷ []) count → count + 1 ≤ 1
none_led fields count k = omega (arith, nothing_led fields (0 ∷ []) (λ b nz. omega (arith, same_other nz)) count k)

within : PeakWithin base 3 1 season
unfolding answer_to order_bytes le number checked_context first_flaw binding_bytes order_in order_of order_readers order_ok order_operands_ok used_by_order order_starts tree_of context_after present kinds_ok asked plainly location stack_offset put_seven store_one load_released
within =
    ((λ e z. absurd (z refl)), ((λ e z count k. none_led _ count k), ((λ e z. absurd (z refl)), ((λ e z count k. none_led _ count k), ((λ e z. absurd (z refl)), ((λ e z count k. none_led _ count k), ((λ e z. absurd (z refl)), tt)))))))

owed : AllOwed base 3 season
unfolding answer_to order_bytes le number checked_context first_flaw binding_bytes order_in order_of order_readers order_ok order_operands_ok used_by_order order_starts tree_of context_after present kinds_ok asked plainly location stack_offset put_seven store_one load_released
owed = ((λ e. ((refl, (refl, tt)), tt)), ((λ e. (tt, tt)), ((λ e. ((refl, (refl, tt)), tt)), ((λ e. (tt, tt)), ((λ e. ((refl, (refl, tt)), tt)), ((λ e. (tt, tt)), ((λ e. (tt, tt)), tt)))))))

pub season_is_sound : SeasonIsSound
unfolding HeapStaysSound
season_is_sound = record { acquires_three = three; one_at_once = within; plain_values = plain; after = heap_stays_sound base base_supported 3 1 season within (omega arith) (omega arith) owed }

-- ---- put 7 and store 1 on two blocks: one block is reachable, so that the frontier is past the heap

abbrev short : List Item
short = store_one ∷ put_seven ∷ []

short_within : PeakWithin base 2 1 short
unfolding answer_to order_bytes le number checked_context first_flaw binding_bytes order_in order_of order_readers order_ok order_operands_ok used_by_order order_starts tree_of context_after present kinds_ok asked plainly location stack_offset put_seven store_one
short_within = ((λ e z count k. none_led _ count k), ((λ e z. absurd (z refl)), tt))

short_owed : AllOwed base 2 short
unfolding put_seven store_one order_bytes le number order_of order_in order_readers
short_owed = ((λ e. (tt, tt)), ((λ e. (tt, tt)), tt))

short_values : values base 2 short ≡ cons (object 5 (cons (integer 7) nil)) nil
unfolding answer_to order_bytes le number checked_context first_flaw binding_bytes order_in order_of order_readers order_ok order_operands_ok used_by_order order_starts tree_of context_after present kinds_ok asked plainly location stack_offset put_seven store_one
short_values = refl

-- runs that ended have met no fault
no_fault : (blocks : ℕ) (its : List Item) → AllRan base blocks its → NoFault base blocks its
no_fault blocks [] r = tt
no_fault blocks (it ∷ its) r = ((λ e. ended (r.0 e)), no_fault blocks its r.1)
  where
    ended : Ran base (reached base blocks its) (values base blocks its) it → (steps place : ℕ) → (run_of base (reached base blocks its) it.asked it.words).answer ≢ Err (Fault steps place)
    ended s steps place f = let z : ◌≡◌ {A = ℕ} 0 1 = cc s.ended in omega arith

-- an object of one has a block
one_block : (fields : ℕ → List Cell) (p : ℕ) (chunks : List (List Cell)) → Object fields p chunks → lengths chunks ≡ 1 ∷ [] → p ≢ 0
one_block fields p [] o l = let z : ◌≡◌ {A = ℕ} 0 1 = cc in absurd (omega arith)
one_block fields p (c ∷ []) o l = o.0
one_block fields p (c ∷ d ∷ chunks) o l = o.0

pub one_fewer_is_too_few : OneFewerIsTooFew
unfolding OneFewerIsTooFew
one_fewer_is_too_few claim =
    let a = claim 2 1 short short_within (omega arith) (omega arith) (omega arith) short_owed in
    let u : Unfaulted base 2 short
    = record {
      two = omega arith;
      most = omega arith;
      no_fault = no_fault 2 short a.ran;
      loads = ((λ e. (short_owed.0 e).0), ((λ e. (short_owed.1.0 e).0), tt));
    } in
    let l = left_by_runs base base_supported 2 short u in
    let h = a.sound.heap in
    let s = state_after base 2 short in
    let held : HoldAll (object_sizes base) s.memory.fields (cons (object 5 (cons (integer 7) nil)) nil) s.variables = rw short_values at h.holds in
    let c : Cell = held.0 in
    let o = held.3 in
    let is : pointers s.variables ≡ c.fst ∷ [] = ap pointers (held.2 ∙ ap (λ (r : List Cell). c ∷ r) held.4) in
    let nz = one_block s.memory.fields c.fst o.1 o.2 o.4 in
    let there = h.beyond.reachable_count.complete c.fst (start nz (rw is (omega (arith, same_self c.fst)))) in
    omega (arith, frontier_unique l.heap.sound h.sound, a.sound.frontier_there, l.past_peak, l.is_peak.within.0 h.beyond.reachable h.beyond.reachable_count, h.beyond.reachable_count.size, occ_length c.fst h.beyond.reachable_count.list)
