-- What an accepted store, load, share or erase says of its context, its operands and its labels.
use Rattle.records.specs.declared.context.Flaw.{Flaw}
use Rattle.std.specs.Prelude.{Ok, Err, Result}
use Prim.Native.Nat.{ℕ, zero, suc, ◌+◌, ◌*◌, ◌-◌, ◌≤◌, ◌<◌}
use mathlib.Core.Path.{◌≡◌, refl, sym, ◌∙◌, subst}
use mathlib.Core.Bool.{true}
use mathlib.Core.List.{List}
use native.Mathlib.Omega.{arith}
use lib.Dec.{ltb}
use borrow.Author.Tests.{ltb-true, ltb-false, ne_eqb}
use Rattle.records.specs.Contexts.{checked_context, counted_on, on_context}
use Rattle.records.proofs.Conditions.{never, chosen, passed}
use Rattle.records.proofs.ContextsRead.{counted_good}
use Rattle.records.specs.Names.{last_label, most_count}
use Rattle.trees.specs.Tree.{Tree, labels}
use Rattle.layout.specs.declared.config.Shape.{Shape}
use Rattle.layout.specs.Config.{Supported, positions}
use Rattle.layout.specs.Positions.{operand_ok}
use Rattle.emit.specs.declared.answer.Refusal.TheVariants.{Context, Operand, Missing, Count, Position, Labels}
use Rattle.emit.specs.Answers.{granted, accepted, Answer}
use Rattle.memory.specs.Answered.{tree_answer, erase_answer, share_answer, store_tree, store_highest, store_answer}
use Rattle.memory.specs.Blocks.{erase_block, share_block}
use Rattle.memory.specs.LoadAnswered.{load_fits, load_answer}
use Rattle.memory.specs.Objects.{ext_in, load_object}

on_good : (c : Result ℕ Flaw) (f : ℕ → Answer) → accepted (on_context c f (λ flaw. Err (Context flaw))) ≡ true → (k : ℕ) × (c ≡ Ok k) × (accepted (f k) ≡ true)
on_good (Ok k) f e = (k, refl, e)
on_good (Err flaw) f e = never e

good_same : {j k : ℕ} → ◌≡◌ {A = Result ℕ Flaw} (Ok j) (Ok k) → j ≡ k
good_same e = cc

-- so many variables are stored or loaded at most, since their positions exist
module _ (G : Shape) (sup : Supported G) where
  pub stored_most : (n k : ℕ) → n ≤ k → store_highest k n < positions G → 2 * n < positions G
  stored_most zero k l h = omega (arith, sup.aside)
  stored_most (suc n) k l h = let b = rw (ne_eqb (suc n) 0 (λ z. omega arith)) at h in omega (arith, sup.even)

  pub loaded_most : (v n : ℕ) → load_fits G v n ≡ true → 2 * n < positions G
  loaded_most v zero e = omega (arith, sup.aside)
  loaded_most v (suc n) e = by (rw (ne_eqb (suc n) 0 (λ z. omega arith)) at e)
    where
      by : ltb (2 * (v + suc n) - 1) (positions G) ≡ true → 2 * suc n < positions G
      by q = omega (arith, ltb-true (2 * (v + suc n) - 1) (positions G) q, sup.even)

-- the labels are below 2^31
pub labelled : (counter room : ℕ) (t : Tree) → accepted (tree_answer counter room t) ≡ true → counter + labels t ≤ last_label
unfolding granted
labelled counter room t e = ltb-false last_label (counter + labels t) (passed accepted (ltb last_label (counter + labels t)) (Err Labels) _ refl e).0

module _ (G : Shape) (counter room : ℕ) where
  pub erase_granted : (w : ℕ) → accepted (erase_answer G counter room w) ≡ true → counter + labels (erase_block G w) ≤ last_label
  unfolding erase_answer
  erase_granted w e = labelled counter room (erase_block G w) (chosen accepted (operand_ok G w) _ (Err Operand) refl e).1

  pub share_granted : (w n : ℕ) → accepted (share_answer G counter room w n) ≡ true → (n ≤ most_count) × (counter + labels (share_block G w n) ≤ last_label)
  unfolding share_answer
  share_granted w n e =
      let a = chosen accepted (operand_ok G w) _ (Err Operand) refl e in
      let b = passed accepted (ltb most_count n) (Err Count) _ refl a.1 in
      (ltb-false last_label n b.0, labelled counter room (share_block G w n) b.1)

  pub store_granted : (context : List ℕ) (k n : ℕ) → checked_context context ≡ Ok k → accepted (store_answer G counter room context n) ≡ true
      → (n ≤ k) × (store_highest k n < positions G) × (counter + labels (store_tree G context n) ≤ last_label)
  unfolding store_answer
  store_granted context k n good e =
      let a = on_good (checked_context context) _ e in
      let same : a.0 ≡ k = good_same (sym a.1 ∙ good) in
      let b = passed accepted (ltb a.0 n) (Err Missing) _ refl a.2 in
      let c = chosen accepted (ltb (store_highest a.0 n) (positions G)) _ (Err Position) refl b.1 in
      (omega (arith, ltb-false a.0 n b.0), rw same at (ltb-true (store_highest a.0 n) (positions G) c.0), labelled counter room (store_tree G context n) c.1)

  -- their contexts are good
  pub store_good : (context : List ℕ) (n : ℕ) → accepted (store_answer G counter room context n) ≡ true → (k : ℕ) × (checked_context context ≡ Ok k)
  unfolding store_answer
  store_good context n e = let a = on_good (checked_context context) _ e in (a.0, a.1)

  pub load_good : (loaded existing : List ℕ) → accepted (load_answer G counter room loaded existing) ≡ true → (v : ℕ) × (checked_context existing ≡ Ok v)
  unfolding load_answer
  load_good loaded existing e = let a = on_good (checked_context existing) _ e in (a.0, a.1)

  pub load_granted : (loaded existing : List ℕ) (v : ℕ) → checked_context existing ≡ Ok v → accepted (load_answer G counter room loaded existing) ≡ true
      → (n : ℕ) × (checked_context loaded ≡ Ok n) × (load_fits G v n ≡ true) × (counter + labels (load_object G (ext_in loaded v) v n) ≤ last_label)
  unfolding load_answer
  load_granted loaded existing v good e =
      let a = on_good (checked_context existing) _ e in
      let b = on_good (counted_on a.0 (checked_context loaded)) _ a.2 in
      let same : a.0 ≡ v = good_same (sym a.1 ∙ good) in
      let c = chosen accepted (load_fits G a.0 b.0) _ (Err Position) refl b.2 in
      let s = subst (λ (j : ℕ). (load_fits G j b.0 ≡ true) × (counter + labels (load_object G (ext_in loaded j) j b.0) ≤ last_label)) same
      (c.0, labelled counter room (load_object G (ext_in loaded a.0) a.0 b.0) c.1) in
      (b.0, counted_good a.0 (checked_context loaded) b.1, s.0, s.1)
