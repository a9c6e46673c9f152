-- The variables of a context as cells: joined, kept, and of the same kinds.
use mathlib.Core.Bool.{Bool}
use mathlib.Core.List.{List, [], ◌∷◌, ◌++◌}
use mathlib.Core.Path.{◌≡◌, refl, ◌∙◌, ap}
use Prim.Native.Nat.{ℕ, zero, suc, ◌+◌, ◌*◌, ◌≤◌, ◌<◌}
use native.Mathlib.Omega.{arith}
use lib.ListN.{length}
use Rattle.layout.specs.Positions.{location}
use Rattle.layout.specs.Frame.{variable_in, variables_in}
use Rattle.machine_step.specs.Step.{Config}
use Rattle.heap.specs.Blocks.{Cell, pointers}
use Rattle.heap.proofs.CountingLemmas.{pointers_length}
use Rattle.layout_proof.specs.Held.{held, Keeps}

module _ (ext : ℕ → Bool) where
  abbrev pub variable : Config → ℕ → Cell
  variable c v = variable_in ext c.state.reg c.state.stk v

  abbrev pub variables : Config → ℕ → ℕ → List Cell
  variables c v k = variables_in ext c.state.reg c.state.stk v k

  pub variables_snoc : (c : Config) (v k : ℕ) → variables c v (suc k) ≡ variables c v k ++ (variable c (v + k) ∷ [])
  variables_snoc c v zero = let e : v + 0 ≡ v = omega arith in rw e
  variables_snoc c v (suc k) =
      let e : v + suc k ≡ suc v + k = omega arith in
      rw e (ap (λ (z : List Cell). variable c v ∷ z) (variables_snoc c (suc v) k))

  pub variables_append : (c : Config) (v a b : ℕ) → variables c v (a + b) ≡ variables c v a ++ variables c (v + a) b
  variables_append c v zero b =
      let e : 0 + b ≡ b = omega arith in
      let e₂ : v + 0 ≡ v = omega arith in
      rw (e, e₂)
  variables_append c v (suc a) b =
      let e : suc a + b ≡ suc (a + b) = omega arith in
      let e₂ : v + suc a ≡ suc v + a = omega arith in
      rw (e, e₂) (ap (λ (z : List Cell). variable c v ∷ z) (variables_append c (suc v) a b))

  pub variables_length : (c : Config) (v k : ℕ) → length (variables c v k) ≡ k
  variables_length c v zero = refl
  variables_length c v (suc k) = ap suc (variables_length c (suc v) k)

  pub variables_pointers : (c : Config) (v k : ℕ) → length (pointers (variables c v k)) ≡ k
  variables_pointers c v k = pointers_length (variables c v k) ∙ variables_length c v k

  pub variables_kept : {P : ℕ → Type 0} (c d : Config) (v k : ℕ) → ((p : ℕ) → 2 * v ≤ p → p < 2 * (v + k) → P (location p)) → Keeps P c d → variables d v k ≡ variables c v k
  variables_kept c d v zero f e = refl
  variables_kept c d v (suc k) f e =
      let a : held d (location (2 * v)) ≡ held c (location (2 * v)) = e.kept (location (2 * v)) (f (2 * v) (omega arith) (omega arith)) in
      let b : held d (location (2 * v + 1)) ≡ held c (location (2 * v + 1)) = e.kept (location (2 * v + 1)) (f (2 * v + 1) (omega arith) (omega arith)) in
      rw (a, b, variables_kept c d (suc v) k (λ p x y. f p (omega arith) (omega arith)) e)

-- the same kinds
pub variables_kinds : (ext ext' : ℕ → Bool) (c : Config) (v k : ℕ) → ((x : ℕ) → v ≤ x → x < v + k → ext' x ≡ ext x) → variables ext' c v k ≡ variables ext c v k
variables_kinds ext ext' c v zero f = refl
variables_kinds ext ext' c v (suc k) f = rw (f v (omega arith) (omega arith), variables_kinds ext ext' c (suc v) k (λ x a b. f x (omega arith) (omega arith)))
