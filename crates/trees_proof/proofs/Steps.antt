-- Single records at a place of a list, and what runs one after the other.
use Rattle.std.specs.Prelude.{None, Err, Some, Option}
use Prim.Native.Nat.{ℕ, zero, suc, ◌+◌, ◌≤◌, ◌<◌}
use mathlib.Core.Path.{◌≡◌, refl, sym, ap, ◌∙◌}
use mathlib.Core.Bool.{Bool, true, false, cond}
use mathlib.Core.List.{List, [], ◌∷◌, ◌++◌}
use mathlib.Core.Option.{some}
use native.Mathlib.Omega.{arith}
use native.Mathlib.Nat.{add_assoc, add-zero, zero-add}
use native.Mathlib.Numerals.{one-add, add-one}
use lib.Dec.{eqb}
use lib.ListN.{length, drop, get_elem?}
use lib.Seq.{drop-drop, drop_at}
use Rattle.records.specs.declared.code.Code.{Code}
use Rattle.records.specs.declared.code.Code.TheVariants.{LAB, JEL, JMPL}
use Rattle.trees.specs.Tree.{straight}
use Rattle.machine_step.specs.Step.{Config, dropped, Outcome, next, jump, end, fault, step}
use Rattle.machine.specs.declared.run.Stop.TheVariants.{Fault}
use Rattle.machine.specs.Run.{find, follow, runs}
use Rattle.machine.specs.Run as machine
use Rattle.trees_proof.specs.Evaluation.{Evaluated, done, faulted, and_then, evaluated, on_equal}
use Rattle.trees_proof.specs.Claims.{RunsTo, Faults, RunsAs}
use Rattle.trees_proof.proofs.Straight.{Onward, straight_onward}
use Rattle.trees_proof.proofs.Labels.{nil_cons}

-- the record at a place, and the place after it
pub drop_one : (p : List Code) (i : ℕ) {x : Code} {xs : List Code} → drop i p ≡ x ∷ xs → drop (suc i) p ≡ xs
drop_one [] zero e = absurd (nil_cons e)
drop_one [] (suc i) e = absurd (nil_cons e)
drop_one (y ∷ ys) zero e = cc
drop_one (y ∷ ys) (suc i) e = drop_one ys i e

pub at_drop : (p : List Code) (i : ℕ) {x : Code} {xs : List Code} → drop i p ≡ x ∷ xs → get_elem? p i ≡ some x
at_drop [] zero e = absurd (nil_cons e)
at_drop [] (suc i) e = absurd (nil_cons e)
at_drop (y ∷ ys) zero e = cc
at_drop (y ∷ ys) (suc i) e = at_drop ys i e

-- past a part
pub drop_part : (p : List Code) (i n : ℕ) (xs ys : List Code) → drop i p ≡ xs ++ ys → length xs ≡ n → drop (i + n) p ≡ ys
drop_part p i n xs ys e h = sym (drop-drop n i p) ∙ ap (drop n) e ∙ drop_at xs ys n h

module _ (words : ℕ → ℕ) (p : List Code) where
  -- what runs one after the other
  pub after : (m k i j l : ℕ) {c d : Config} (o : Evaluated) → RunsTo words p m i j c d → RunsAs words p k j l d o → i ≤ j → (most : ℕ) → m + k ≤ most → RunsAs words p most i l c o
  after m k i j l (done e) r g h most b =
      record {
        steps = r.steps + g.steps;
        within = omega arith;
        run = λ left made. rw add_assoc (r.run (g.steps + left) made ∙ g.run left (made + r.steps) ∙ ap (λ n. runs words p left n l e) (add_assoc made r.steps g.steps));
      }
  after m k i j l (faulted e) r g h most b =
      record {
        steps = r.steps + g.steps;
        within = omega arith;
        place = g.place;
        above = omega arith;
        below = g.below;
        run = λ left made. rw add_assoc (r.run (g.steps + suc left) made ∙ g.run left (made + r.steps) ∙ ap (λ n. machine.done (Err (Fault n g.place)) e) (add_assoc made r.steps g.steps));
      }

  pub joined : (m k i j l : ℕ) (c : Config) (o : Evaluated) (f : Config → Evaluated) → RunsAs words p m i j c o → ((d : Config) → RunsAs words p k j l d (f d))
      → i ≤ j → j ≤ l → (most : ℕ) → m + k ≤ most → RunsAs words p most i l c (and_then o f)
  joined m k i j l c (done d) f r g h u most b = after m k i j l (f d) r (g d) h most b
  joined m k i j l c (faulted d) f r g h u most b = record { steps = r.steps; within = omega arith; place = r.place; above = r.above; below = omega arith; run = r.run }

  module _ (i : ℕ) {x : Code} {xs : List Code} (e : drop i p ≡ x ∷ xs) (c : Config) where
    one_step : (left made : ℕ) → runs words p (suc left) made i c ≡ follow p made i c (λ j d. runs words p left (suc made) j d) (step words x c)
    unfolding runs
    one_step left made = rw (at_drop p i e)

    -- one record: on to the next one, to a label, or a fault
    pub stepped : {d : Config} → step words x c ≡ next d → RunsTo words p 1 i (suc i) c d
    stepped {d} s = record { steps = 1; within = omega arith; run = λ left made. rw (one-add, add-one) (one_step left made ∙ rw s) }

    pub jumped : {label j : ℕ} {d : Config} → step words x c ≡ jump label d → find label p ≡ Some j → RunsTo words p 1 i j c d
    jumped s f = record { steps = 1; within = omega arith; run = λ left made. rw (one-add, add-one) (one_step left made ∙ rw (s, f)) }

    pub stopped : (to : ℕ) {d : Config} → step words x c ≡ fault d → i < to → (most : ℕ) → 0 < most → Faults words p most i to c d
    stopped to s h most b = record { steps = 0; within = b; place = suc i; above = omega arith; below = omega arith; run = λ left made. rw (zero-add, add-zero) (one_step left made ∙ rw s) }

    pub straight_does : straight x ≡ true → RunsAs words p 1 i (suc i) c (evaluated (step words x c))
    straight_does q = at (step words x c) refl (straight_onward words x c q)
      where
        at : (o : Outcome) → step words x c ≡ o → Onward o → RunsAs words p 1 i (suc i) c (evaluated o)
        at (next d) s w = stepped s
        at (jump label d) s w = absurd w
        at (end d) s w = absurd w
        at (fault d) s w = stopped (suc i) s (omega arith) 1 (omega arith)

  -- a mark drops the compare
  pub mark_does : (i : ℕ) {label : ℕ} {xs : List Code} → drop i p ≡ LAB label ∷ xs → (c : Config) → RunsTo words p 1 i (suc i) c (dropped c)
  unfolding step
  mark_does i e c = stepped i e c refl

  pub jump_does : (i : ℕ) {label j : ℕ} {xs : List Code} → drop i p ≡ JMPL label ∷ xs → find label p ≡ Some j → (c : Config) → RunsTo words p 1 i j c (dropped c)
  unfolding step
  jump_does i e f c = jumped i e c refl f

  -- the choice by the last compare: one part from the label on, the other from the next record on
  pub choice_does : (m k i j l : ℕ) {label : ℕ} {xs : List Code} → drop i p ≡ JEL label ∷ xs → find label p ≡ Some j → (c : Config) (a b : Evaluated)
      → RunsAs words p m j l (dropped c) a → RunsAs words p k (suc i) l (dropped c) b → i ≤ j → i < l
      → (most : ℕ) → m < most → k < most → RunsAs words p most i l c (on_equal c c.pair a b)
  unfolding step
  choice_does m k i j l {label} e f c a b g h u v most s t = at c.pair refl
    where
      chosen : (q : Bool) → step words (JEL label) c ≡ cond q (jump label (dropped c)) (next (dropped c)) → RunsAs words p most i l c (cond q a b)
      chosen true w = after 1 m i j l a (jumped i e c w f) g u most (omega arith)
      chosen false w = after 1 k i (suc i) l b (stepped i e c w) h (omega arith) most (omega arith)

      at : (q : Option (ℕ × ℕ)) → c.pair ≡ q → RunsAs words p most i l c (on_equal c q a b)
      at (Some (x, y)) w = chosen (eqb x y) (rw w)
      at None w = stopped i e c l {d = c} (rw w) v most (omega arith)
