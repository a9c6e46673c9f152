-- What is told of a context is the earliest that is bad in it.
use Prim.Native.Nat.{ℕ, zero, suc, ◌+◌, ◌*◌, ◌-◌, ◌/◌, ◌%◌, ◌≤◌, ◌<◌}
use mathlib.Core.Path.{◌≡◌, ◌∙◌}
use mathlib.Core.Bool.{true}
use mathlib.Core.List.{List}
use native.Mathlib.Nat.{zero-add, add-zero, sub-zero, add_comm, mul-suc}
use native.Mathlib.Omega.{arith}
use lib.Dec.{leb, eqb}
use lib.ListN.{length, drop}
use lib.Seq.{drop-drop}
use borrow.Author.Tests.{eqb-true}
use Rattle.records.specs.Contexts.{length_ok, first_flaw, checked_context}
use Rattle.records.specs.Flaws.{GoodBefore, BadBindingsAreTold}
use Rattle.records.proofs.Conditions.{both}

-- past k good bindings
reached : (s : List ℕ) (k n m : ℕ) → k ≤ n → GoodBefore s k → first_flaw m n s ≡ first_flaw (m + k) (n - k) (drop (8 * k) s)
unfolding first_flaw
reached s zero n m h good = rw (add-zero, sub-zero)
reached s (suc k) zero m h good = absurd (omega arith)
reached s (suc k) (suc n) m h good =
    let here = good 0 (omega arith) in
    let rest : GoodBefore (drop 8 s) k = λ i l. rw (drop-drop, add_comm 8 (8 * i), ← mul-suc) (good (suc i) (omega arith)) in
    let e : m + suc k ≡ suc m + k = omega arith in
    let d : suc n - suc k ≡ n - k = omega arith in
    rw (here.0, here.1, e, d, mul-suc, add_comm (8 * k) 8, ← drop-drop) (reached (drop 8 s) k n (suc m) (omega arith) rest)

module _ (s : List ℕ) (k : ℕ) (l : length_ok s ≡ true) (good : GoodBefore s k) where
  whole : length s % 8 ≡ 0
  whole = eqb-true (length s % 8) 0 (both (eqb (length s % 8) 0) (leb (length s) (8 * 4096)) l).0

  read_to : 8 * k ≤ length s → checked_context s ≡ first_flaw k (length s / 8 - k) (drop (8 * k) s)
  unfolding checked_context
  read_to h = rw l (rw zero-add at (reached s k (length s / 8) 0 (omega (arith, whole)) good))

  module _ (h : 8 * k < length s) where
    one_more : length s / 8 - k ≡ suc (length s / 8 - suc k)
    one_more = omega (arith, whole)

pub bad_bindings_are_told : BadBindingsAreTold
unfolding checked_context first_flaw
bad_bindings_are_told =
    record {
      length_first = λ s e. rw e;
      mark_next = λ s k l h good m. read_to s k l good (omega arith) ∙ rw (one_more s k l good h, m);
      kind_last = λ s k l h good m b. read_to s k l good (omega arith) ∙ rw (one_more s k l good h, m, b);
      else_good = λ s l good. let z : length s / 8 - length s / 8 ≡ 0 = omega arith in read_to s (length s / 8) l good (omega arith) ∙ rw z;
    }
