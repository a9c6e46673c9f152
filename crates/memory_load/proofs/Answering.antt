-- From two checked contexts to what a load answers.
use Rattle.records.specs.declared.context.Flaw.{Flaw}
use Rattle.std.specs.Prelude.{Err, Ok, Result}
use Prim.Native.Nat.{ℕ, ◌+◌, ◌*◌, ◌-◌, ◌≤◌, ◌<◌}
use mathlib.Core.Path.{◌≡◌, sym, ap, ◌∙◌}
use mathlib.Core.Bool.{true}
use mathlib.Core.List.{List}
use native.Mathlib.Omega.{arith}
use native.Mathlib.Decide.{ℕ_discrete}
use borrow.Author.Tests.{ne_eqb, ltb-true}
use Rattle.records.specs.Contexts.{checked_context, counted_on, bindings_in, on_context}
use Rattle.emit.specs.declared.answer.Refusal.TheVariants.{Context}
use Rattle.layout.specs.declared.config.Shape.{Shape}
use Rattle.layout.specs.Config.{Supported, positions, most_variables}
use Rattle.memory.specs.Objects.{ext_in, load_object}
use Rattle.memory.specs.LoadAnswered.{load_tree, load_fits, load_after, load_answer}

module _ (g : Shape) (s : Supported g) (v n : ℕ) (e : load_fits g v n ≡ true) where
  pub fits_all : (n ≡ 0 → ⊥) → 2 * (v + n) < positions g
  fits_all z = let h : 2 * (v + n) - 1 < positions g = ltb-true (2 * (v + n) - 1) (positions g) (rw (ne_eqb n 0 z) at e) in omega (arith, s.even)

  pub fits_few : n ≤ most_variables g
  fits_few = by (ℕ_discrete n 0)
    where
      by : Dec (n ≡ 0) → n ≤ most_variables g
      by (yes z) = omega arith
      by (no z) = let h = fits_all z in omega arith

module _ (g : Shape) (s e : List ℕ) (n v : ℕ) (h : checked_context s ≡ Ok n) (k : checked_context e ≡ Ok v) where
  pub tree : load_object g (ext_in s v) v n ≡ load_tree g s e
  tree =
      ap (λ (c : Result ℕ Flaw). load_object g (ext_in s (bindings_in c)) (bindings_in c) n) (sym k)
      ∙ ap (λ (c : Result ℕ Flaw). load_object g (ext_in s (bindings_in (checked_context e))) (bindings_in (checked_context e)) (bindings_in c)) (sym h)

  pub answer : (counter room : ℕ) → load_after g counter room s v n ≡ load_answer g counter room s e
  unfolding load_answer
  answer counter room =
      ap (λ (c : Result ℕ Flaw). on_context (counted_on v c) (λ n. load_after g counter room s v n) (λ flaw. Err (Context flaw))) (sym h)
      ∙ ap (λ (c : Result ℕ Flaw). on_context c (λ v. on_context (counted_on v (checked_context s)) (λ n. load_after g counter room s v n) (λ flaw. Err (Context flaw))) (λ flaw. Err (Context flaw))) (sym k)
