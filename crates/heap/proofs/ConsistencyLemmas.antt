-- A consistent heap stays so under a change of roots, of counts with roots, and under drop.
-- Preserved parts compose, and carry objects and values with them.
use mathlib.Core.Path.{◌≡◌, refl, ◌∙◌}
use mathlib.Core.Logic.{◌≢◌}
use mathlib.Core.List.{List, ◌∷◌}
use Prim.Native.Nat.{ℕ, ◌+◌, ◌≤◌, ◌<◌}
use native.Mathlib.Decide.{ℕ_discrete, dec_lt}
use native.Mathlib.Omega.{arith}
use Rattle.heap.specs.Counting.{occ}
use Rattle.heap.specs.Blocks.{Layout, Cell, pointers, children, Memory}
use Rattle.heap.specs.Reachability.{start, follow, ReachableFrom}
use Rattle.heap.specs.Values.{Values, concat}
use Rattle.heap.specs.Apart.{ObjectApart, HoldAllApart}
use Rattle.heap.specs.Operations.{Erase, with_headers, with_lazy}
use Rattle.heap.proofs.Invariant.{Held, FrontierMoved, Consistent, Preserved}
use Rattle.heap.proofs.OperationLemmas.{recount, same_roots, erase_pointer}
use Rattle.heap.proofs.ReachabilityLemmas.{reachable_through, reachable_is_held}
use Rattle.heap.proofs.ValueLemmas.{object_frame, object_pointers, hold_all_frame}

pub moved_then : {n s m t l u : ℕ} → FrontierMoved n s m t → FrontierMoved m t l u → FrontierMoved n s l u
moved_then {n} {m} {l} {u} p q =
    record { not_back = omega (arith, p.not_back, q.not_back); only_when_full = λ x. by x (dec_lt n m); stays_full = λ z. q.stays_full (p.stays_full z) }
  where
    by : n < l → Dec (n < m) → u ≡ 0
    by x (yes a) = q.stays_full (p.only_when_full a)
    by x (no a) = q.only_when_full (omega (arith, p.not_back))

pub preserved_then : {M M₁ M₂ : Memory} {linked linked₁ linked₂ : ℕ → ℕ} {A B C : List ℕ} → Preserved M linked A M₁ linked₁ B → Preserved M₁ linked₁ B M₂ linked₂ C → Preserved M linked A M₂ linked₂ C
preserved_then p q = record {
  reachable = λ b r. q.reachable b (p.reachable b r);
  fields = λ b r. q.fields b (p.reachable b r) ∙ p.fields b r;
  marks = λ b r. q.marks b (p.reachable b r) ∙ p.marks b r;
}

-- fewer roots to begin with, and more at the end
pub preserved_weaken : {M M' : Memory} {linked linked' : ℕ → ℕ} {A A' B B' : List ℕ} → ((b : ℕ) → b ≢ 0 → occ b A' ≢ 0 → occ b A ≢ 0) → ((b : ℕ) → b ≢ 0 → occ b B ≢ 0 → occ b B' ≢ 0)
    → Preserved M linked A M' linked' B → Preserved M linked A' M' linked' B'
preserved_weaken s t p = record {
  reachable = λ b r. reachable_through (λ x nz m. start nz (t x nz m)) (p.reachable b (reachable_through (λ x nz m. start nz (s x nz m)) r));
  fields = λ b r. p.fields b (reachable_through (λ x nz m. start nz (s x nz m)) r);
  marks = λ b r. p.marks b (reachable_through (λ x nz m. start nz (s x nz m)) r);
}

module _ {M M' : Memory} {linked linked' : ℕ → ℕ} {A B : List ℕ} (p : Preserved M linked A M' linked' B) where
  pub preserved_object : (chunks : List (List Cell)) (q : ℕ) → (q ≢ 0 → occ q A ≢ 0) → ObjectApart M.fields linked q chunks → ObjectApart M'.fields linked' q chunks
  preserved_object chunks q s o = object_frame (ReachableFrom M.fields A) p.fields p.marks (λ y b r nz m. follow y r nz m) chunks q (λ nz. start nz (s nz)) o

  pub preserved_values : (sizes : ℕ → List ℕ) (vs : Values) (cs : List Cell) → ((b : ℕ) → b ≢ 0 → occ b (pointers cs) ≢ 0 → occ b A ≢ 0) → HoldAllApart sizes M.fields linked vs cs → HoldAllApart sizes M'.fields linked' vs cs
  preserved_values sizes vs cs s o = hold_all_frame (ReachableFrom M.fields A) p.fields p.marks (λ y b r nz m. follow y r nz m) sizes vs cs (λ b nz m. start nz (s b nz m)) o

-- the object's values name what its pointer leads to
pub object_reachable : (fields : ℕ → List Cell) (linked : ℕ → ℕ) (roots : List ℕ) (chunks : List (List Cell)) (p : ℕ) → (p ≢ 0 → ReachableFrom fields roots p) → ObjectApart fields linked p chunks
    → (b : ℕ) → b ≢ 0 → occ b (pointers (concat chunks)) ≢ 0 → ReachableFrom fields roots b
object_reachable fields linked roots chunks p s o =
    object_pointers {fields' = fields} {linked' = linked} (ReachableFrom fields roots) (λ b r. refl) (λ b r. refl) (λ y b r nz m. follow y r nz m) chunks p s o

module _ {L : Layout} {M : Memory} {linked : ℕ → ℕ} {n : ℕ} {roots : List ℕ} where
  -- what the roots lead to is held
  pub reachable_held : (g : Consistent L M linked n roots) {b : ℕ} → ReachableFrom M.fields roots b → Held (children M.fields) M.header (M.linear_head ∷ g.linear_rest) g.lazy g.live roots b
  reachable_held g r = reachable_is_held g.invariant (λ b. omega arith) r

  unfoldable pub consistent_same_roots : (roots' : List ℕ) → ((b : ℕ) → b ≢ 0 → occ b roots' ≡ occ b roots) → Consistent L M linked n roots → Consistent L M linked n roots'
  consistent_same_roots roots' e g = record {
    linear_rest = g.linear_rest;
    lazy = g.lazy;
    live = g.live;
    invariant = same_roots e g.invariant;
    one_pointer = λ b nz m. omega (arith, g.one_pointer b nz m, e b nz);
    linked_live = g.linked_live;
  }

  -- counts and roots change together
  pub consistent_recount : (roots' : List ℕ) (header' : ℕ → ℕ)
      → ((b : ℕ) → b ≢ 0 → occ b roots' + M.header b ≡ occ b roots + header' b)
      → ((b : ℕ) → b ≢ 0 → occ b roots' ≢ 0 → ReachableFrom M.fields roots b)
      → ((b : ℕ) → b ≢ 0 → linked b ≢ 0 → occ b roots' ≤ occ b roots)
      → Consistent L M linked n roots → Consistent L (with_headers M header') linked n roots'
  consistent_recount roots' header' e r s g = record {
    linear_rest = g.linear_rest;
    lazy = g.lazy;
    live = g.live;
    invariant = recount (λ b nz l. e b nz) (λ b nz l. off b nz l (ℕ_discrete (occ b roots') 0)) g.invariant;
    one_pointer = λ b nz m. omega (arith, g.one_pointer b nz m, s b nz m);
    linked_live = g.linked_live;
  }
    where
      off : (b : ℕ) → b ≢ 0 → occ b g.live ≤ occ b g.lazy → Dec (occ b roots' ≡ 0) → (header' b ≡ M.header b) × (occ b roots' ≡ occ b roots)
      off b nz l (yes z) = omega (arith, e b nz, g.invariant.others_unnamed b nz l)
      off b nz l (no z) = let h = reachable_held g (r b nz z) in absurd (omega arith)

-- the last variable is dropped
pub drop_consistent : {L : Layout} {M : Memory} {linked : ℕ → ℕ} {n p : ℕ} {roots : List ℕ} (header' : ℕ → ℕ) (lazy-head' : ℕ) → Erase p M.header M.lazy_head header' lazy-head'
    → Consistent L M linked n (p ∷ roots) → Consistent L (with_lazy M header' lazy-head') linked n roots
drop_consistent header' lazy-head' e g =
    let r = erase_pointer e g.invariant in
    record {
      linear_rest = g.linear_rest;
      lazy = r.0;
      live = g.live;
      invariant = r.1;
      one_pointer = λ b nz m. omega (arith, g.one_pointer b nz m);
      linked_live = g.linked_live;
    }
