-- A list of records that a check accepts is whole, and each record of it is well formed.
use Rattle.records.specs.declared.check.Malformed.{Malformed}
use Rattle.std.specs.Prelude.{Err, Ok, Result}
use Prim.Native.Nat.{ℕ, zero, suc, ◌*◌, ◌≤◌, ◌<◌, min}
use mathlib.Core.Path.{◌≡◌, refl, sym, ap, ◌∙◌}
use mathlib.Core.Bool.{Bool, true, false, ◌&&◌, cond}
use mathlib.Core.List.{List}
use native.Mathlib.Omega.{arith}
use lib.Dec.{ltb, eqb}
use lib.ListN.{length, drop, length-drop}
use borrow.Author.Tests.{eqb-true, eqb-false}
use Rattle.records.specs.Checked.{first_bad, places, checked, malformed}
use Rattle.records.specs.Instructions.{code_starts, checked_codes}
use Rattle.records.proofs.Conditions.{and_right}
use Rattle.records.proofs.CodesRead.{starts_whole}
use Rattle.machine.specs.declared.run.Stop.TheVariants.{Malformed as is_malformed}
use Rattle.machine.specs.Run.{Done, run_cause, Leaves, codes_of, started, ran, RunAnswer}
use Rattle.machine.specs.Loop.{ListedCodes, EndsBy}
use Rattle.machine.proofs.Running.{unlike}
use Rattle.machine_step.specs.View.{View, view}
use Rattle.machine_step.specs.Memory.{heap_ok}

-- each record from place k on passes the test
module _ (ok : List ℕ → Bool) (size limit : ℕ) (s : List ℕ) where
  -- record k passes, and each later one
  here : (k j : ℕ) → k ≤ j → ltb k limit && ok (drop (size * k) s) ≡ true → (suc k ≤ j → ok (drop (size * j) s) ≡ true) → ok (drop (size * j) s) ≡ true
  here k j l q r = by (eqb j k) refl
    where
      by : (b : Bool) → eqb j k ≡ b → ok (drop (size * j) s) ≡ true
      by true e = rw (eqb-true j k e) (and_right (ltb k limit) (ok (drop (size * k) s)) q)
      by false e = let n = eqb-false j k e in r (omega arith)

  all_pass : (k m n : ℕ) → first_bad ok size limit s k m ≡ Ok n → (j : ℕ) → k ≤ j → j < n → ok (drop (size * j) s) ≡ true
  unfolding first_bad
  all_pass k zero n e j l h = let q : k ≡ n = cc in absurd (omega arith)
  all_pass k (suc m) n e j l h = by (ltb k limit && ok (drop (size * k) s)) refl e (λ i r. all_pass (suc k) m n i j r h)
    where
      by : (b : Bool) → ltb k limit && ok (drop (size * k) s) ≡ b → cond b (first_bad ok size limit s (suc k) m) (Err (malformed (suc k))) ≡ Ok n
          → (first_bad ok size limit s (suc k) m ≡ Ok n → suc k ≤ j → ok (drop (size * j) s) ≡ true) → ok (drop (size * j) s) ≡ true
      by true q i r = here k j l q (r i)
      by false q i r = unlike (cc)

module _ (most : ℕ) (s : List ℕ) where
  starts : {n : ℕ} → checked_codes most s ≡ Ok n → (k : ℕ) → k < n → code_starts (drop (24 * k) s) ≡ true
  unfolding checked
  starts {n} e k h = all_pass code_starts 24 (min most 65536) s 0 (places 24 s) n e k (omega arith) h

  whole : (n : ℕ) → ((k : ℕ) → k < n → code_starts (drop (24 * k) s) ≡ true) → 24 * n ≤ length s
  whole zero f = omega arith
  whole (suc n) f = let w = simp length-drop at (starts_whole (drop (24 * n) s) (f n (omega arith))) in omega arith

  pub accepted : {n : ℕ} → checked_codes most s ≡ Ok n → ListedCodes s n
  accepted {n} e = record { whole = whole n (starts e); starts = starts e }

-- the whole run: refused for the heap, for a record, or as its records go
leaves : {a : RunAnswer} {v : View} {d : Done} → a ≡ d.answer → v ≡ d.last.state → Leaves a v d
leaves e f = record { answer = e; cause = ap run_cause e; last = f }

module _ (block : ℕ) (words : ℕ → ℕ) (s : List ℕ) (limit : ℕ) (R S H : List ℕ) {b : Bool} (h : b ≡ heap_ok block (length H)) where
  pub ran_heap : b ≡ false → Leaves (Err (is_malformed 0)) (view R S H) (ran block words s limit (view R S H))
  unfolding ran
  ran_heap n = rw (← h, n) (leaves refl refl)

  module _ {k : Result ℕ Malformed} (t : b ≡ true) (e : k ≡ checked_codes 65536 s) where
    pub ran_malformed : {place : ℕ} → k ≡ Err (malformed place) → Leaves (Err (is_malformed place)) (view R S H) (ran block words s limit (view R S H))
    unfolding ran
    ran_malformed q = rw (← h, t, sym e ∙ q) (leaves refl refl)

    pub ran_ends : {n : ℕ} {a : RunAnswer} {v : View} → k ≡ Ok n → EndsBy v a (started words (codes_of n s) limit (view R S H))
        → Leaves a v (ran block words s limit (view R S H))
    unfolding ran
    ran_ends q f = rw (← h, t, sym e ∙ q) (leaves f.answer f.last)
