-- The fresh state follows the setup's bytes: they are read back, and their run is that of the records.
use Rattle.std.specs.Prelude.{Ok}
use Prim.Native.Nat.{ℕ, zero, suc, ◌+◌, ◌-◌, ◌≤◌}
use mathlib.Core.Path.{◌≡◌, refl, sym, subst}
use mathlib.Core.List.{List}
use native.Mathlib.Omega.{arith}
use lib.Dec.{ltb, eqb}
use lib.ListN.{length, get_or, replicate, length-replicate}
use Rattle.records.proofs.Conditions.{both_ways}
use Rattle.layout.specs.declared.config.Shape.{Shape}
use Rattle.layout.specs.Config.{Supported, block_bytes, block_words, stack_depth, frame_pointer}
use Rattle.word.specs.Words.{sum, difference}
use Rattle.machine_step.specs.View.{View, from_end, words_of, upd}
use Rattle.machine_step.specs.Memory.{heap_start}
use Rattle.machine_step.specs.Step.{step}
use Rattle.machine.specs.Run.{done, runs, started, starting}
use Rattle.machine.specs.State.{see, entry_state, firsts}
use Rattle.machine.proofs.Places.{place_1, place_2, place_3, place_4, place_5, place_6}
use Rattle.routine.specs.Routine.{spill_space, head}
use Rattle.emit_proof.specs.Claims.{LeavesFresh, FreshFollowsBytes}
use Rattle.emit_proof.proofs.Lists.{readable}
use Rattle.emit_proof.proofs.Routines.{head_formed}

-- ---- words that are zero

abbrev zeros : ℕ → List ℕ
zeros n = replicate n 0

zeros_first : (n : ℕ) (f : ℕ → ℕ) → ((i : ℕ) → f i ≡ 0) → firsts n f ≡ zeros n
zeros_first zero f h = refl
zeros_first (suc n) f h = rw (h 0, zeros_first n (λ i. f (suc i)) (λ i. h (suc i)))

zero_put : (f : ℕ → ℕ) (i : ℕ) → ((j : ℕ) → f j ≡ 0) → (j : ℕ) → upd f i 0 j ≡ 0
zero_put f i h j = both_ways (λ (x : ℕ). x ≡ 0) (eqb j i) refl (h j)

zeros_at : (n i : ℕ) → get_or (zeros n) i 0 ≡ 0
zeros_at zero i = refl
zeros_at (suc n) zero = refl
zeros_at (suc n) (suc i) = zeros_at n i

zeros_end : (n i : ℕ) → from_end (zeros n) i ≡ 0
zeros_end n i = both_ways (λ (x : ℕ). x ≡ 0) (ltb i (length (zeros n))) (zeros_at n (length (zeros n) - suc i)) refl

-- ---- what the sixteen records leave of a state of zeros but for STACK and register 7

module _ (G : Shape) (stack heap : ℕ → ℕ) (depth size : ℕ) where
  abbrev entered : View
  entered = record { reg = words_of (entry_state G).registers; stk = stack; mem = heap; depth = depth; size = size }

  abbrev left_registers : ℕ → ℕ
  left_registers =
      upd (upd (upd (upd (upd (upd (upd (upd (upd (upd (words_of (entry_state G).registers) 0 1099511627760) 0 1099511627752) 0 1099511627744) 0 1099511627736) 0 1099511627728) 0 1099511627720)
      0 (difference 1099511627720 (spill_space G))) 2 heap_start) 3 heap_start) 3 (sum heap_start (block_bytes G))

  abbrev left_stack : ℕ → ℕ
  left_stack = upd (upd (upd (upd (upd (upd stack 1 0) 2 0) 3 0) 4 0) 5 0) 6 0

  abbrev left : View
  left = record { reg = left_registers; stk = left_stack; mem = heap; depth = depth; size = size }

  head_runs : (words : ℕ → ℕ) → 7 ≤ depth → started words (head G 0) 16 entered ≡ done (Ok 16) (starting left)
  unfolding runs step sum difference
  head_runs words deep =
      rw (place_1 depth size deep, place_2 depth size deep, place_3 depth size deep, place_4 depth size deep, place_5 depth size deep, place_6 depth size deep)

module _ (G : Shape) (sup : Supported G) where
  frame_left : difference 1099511627720 (spill_space G) ≡ frame_pointer G
  unfolding difference
  frame_left = omega (arith, sup.frame)

  second_block : sum heap_start (block_bytes G) ≡ heap_start + block_bytes G
  unfolding sum
  second_block = omega (arith, sup.few)

  abbrev end : List ℕ → View
  end H = left G (from_end (zeros (stack_depth G))) (words_of H) (length (zeros (stack_depth G))) (length H)

  of_records : (words : ℕ → ℕ) (H : List ℕ) → LeavesFresh G H (started words (head G 0) 16 (see (entry_state G) H))
  of_records words H =
      let n : ℕ = stack_depth G in
      let long : length (zeros n) ≡ n = length-replicate {A = ℕ} n 0 in
      let run : started words (head G 0) 16 (see (entry_state G) H) ≡ done (Ok 16) (starting (end H))
      = head_runs G (from_end (zeros n)) (words_of H) (length (zeros n)) (length H) words (omega arith) in
      subst (LeavesFresh G H) (sym run) (record {
        ended = refl;
        calls = refl;
        registers = rw (frame_left, second_block);
        stack = zeros_first n _ (zero_put _ 6 (zero_put _ 5 (zero_put _ 4 (zero_put _ 3 (zero_put _ 2 (zero_put (from_end (zeros n)) 1 (zeros_end n)))))));
        heap = refl;
        depth = long;
        size = refl;
      })

pub fresh_follows_bytes : FreshFollowsBytes
unfolding FreshFollowsBytes
fresh_follows_bytes G sup words H h =
    let r = readable (head G 0) (head_formed G sup 0 (omega arith)) (omega arith) in
    subst (LeavesFresh G H) (sym (r.runs (block_words G) words 16 (see (entry_state G) H) h)) (of_records G sup words H)
