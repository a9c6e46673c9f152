-- Records one after the other, none of which jumps, at a place of a list; and the return.
use Rattle.std.specs.Prelude.{None, Ok, Some, Option}
use Prim.Native.Nat.{ℕ, suc, ◌+◌, ◌-◌, ◌≤◌, ◌<◌}
use mathlib.Core.Path.{◌≡◌, refl, ap, ◌∙◌}
use mathlib.Core.List.{List, [], ◌∷◌, ◌++◌}
use native.Mathlib.Omega.{arith}
use native.Mathlib.Nat.{add-zero, zero-add, add-suc, suc-add}
use lib.ListN.{length, drop}
use Rattle.records.specs.declared.code.Code.{Code}
use Rattle.machine_step.specs.Step.{Config, Outcome, next, jump, end, fault, step}
use Rattle.machine.specs.Run.{runs}
use Rattle.machine.specs.Run as machine
use Rattle.trees_proof.specs.Claims.{RunsTo}
use Rattle.trees_proof.proofs.Steps.{drop_one, at_drop}

abbrev on_next : Outcome → (Config → Option Config) → Option Config
on_next (next c) k = k c
on_next (jump label c) k = None
on_next (end c) k = None
on_next (fault c) k = None

-- the configuration after all of them, if each goes on to the next
abbrev pub through : (ℕ → ℕ) → List Code → Config → Option Config
through words [] c = Some c
through words (x ∷ xs) c = on_next (step words x c) (λ d. through words xs d)

unlike : {A : Type 0} {d : Config} → None ≡ Some d → A
unlike e = let z : ◌≡◌ {A = ℕ} 0 1 = cc in absurd (omega arith)

module _ (words : ℕ → ℕ) (p : List Code) where
  -- one step for each, and then the rest of the run
  pub passes : (xs : List Code) (i : ℕ) (rest : List Code) (c d : Config) → drop i p ≡ xs ++ rest → through words xs c ≡ Some d
      → (left made : ℕ) → runs words p (length xs + left) made i c ≡ runs words p left (made + length xs) (i + length xs) d
  unfolding runs
  passes [] i rest c d e h left made = let g : c ≡ d = cc in simp (zero-add, add-zero, g)
  passes (x ∷ xs) i rest c d e h left made = by (step words x c) refl h (λ f g. passes xs (suc i) rest f d (drop_one p i e) g left (suc made))
    where
      by : (o : Outcome) → step words x c ≡ o → on_next o (λ d. through words xs d) ≡ Some d
          → ((f : Config) → through words xs f ≡ Some d
          → runs words p (length xs + left) (suc made) (suc i) f ≡ runs words p left (suc made + length xs) (suc i + length xs) d)
          → runs words p (suc (length xs) + left) made i c ≡ runs words p left (made + suc (length xs)) (i + suc (length xs)) d
      by (next f) s h r =
          rw (suc-add (length xs) left, at_drop p i e, s, add-suc made (length xs), add-suc i (length xs), ← suc-add made (length xs), ← suc-add i (length xs)) (r f h)
      by (jump label f) s h r = unlike h
      by (end f) s h r = unlike h
      by (fault f) s h r = unlike h

  pub reached : (xs : List Code) (i : ℕ) (rest : List Code) (c d : Config) → drop i p ≡ xs ++ rest → through words xs c ≡ Some d → RunsTo words p (length xs) i (i + length xs) c d
  reached xs i rest c d e h = record { steps = length xs; within = omega arith; run = passes xs i rest c d e h }

  -- a run that comes to a record that ends it
  module _ (i : ℕ) {x : Code} {xs : List Code} (c b d : Config) (e : drop i p ≡ x ∷ xs) (s : step words x b ≡ end d) where
    one_step : (left made : ℕ) → runs words p (suc left) made i b ≡ machine.done (Ok (suc made)) d
    unfolding runs
    one_step left made = rw (at_drop p i e, s)

    pub ended : (most limit : ℕ) → RunsTo words p most 0 i c b → most < limit → (k : ℕ) × (k ≤ limit) × (runs words p limit 0 0 c ≡ machine.done (Ok k) d)
    ended most limit r h =
        let left : ℕ = limit - suc r.steps in
        let m : limit ≡ r.steps + suc left = omega (arith, r.within) in
        (suc r.steps, omega (arith, r.within), ap (λ l. runs words p l 0 0 c) m ∙ r.run (suc left) 0 ∙ ap (λ l. runs words p (suc left) l i b) (zero-add r.steps) ∙ one_step left r.steps)
