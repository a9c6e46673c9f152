-- The first n blocks are distinct and not null, and each has a number.
-- Chains, counts of pointers and the newest-first rule stay as they are where the blocks that they read do.
use mathlib.Core.Path.{◌≡◌, refl, sym, ◌∙◌}
use mathlib.Core.Logic.{◌≢◌}
use mathlib.Core.List.{List, [], ◌∷◌}
use Prim.Native.Nat.{ℕ, zero, suc, ◌≤◌, ◌<◌}
use native.Mathlib.Decide.{ℕ_discrete}
use native.Mathlib.Omega.{arith}
use Rattle.heap.specs.Counting.{same, occ, refs}
use Rattle.heap.specs.Blocks.{Layout, blocks, Chain}
use Rattle.heap.specs.Operations.{Elsewhere}
use Rattle.heap.proofs.Invariant.{NewestFirst}
use Rattle.heap.proofs.CountingLemmas.{same_self, same_other, split, differ_by_occ, Removed, here, there, removed_occ}

pub block_above : (L : Layout) (n i : ℕ) → n ≤ i → occ (L.address i) (blocks L n) ≡ 0
block_above L zero i h = refl
block_above L (suc n) i h = omega (arith, same_other (λ e. differ (L.distinct i n e)), block_above L n i (omega arith))
  where
    differ : i ≡ n → ⊥
    differ e = omega arith

pub block_once : (L : Layout) (n b : ℕ) → occ b (blocks L n) ≤ 1
block_once L zero = λ b. omega arith
block_once L (suc n) =
    split (L.address n) (omega (arith, same_self (L.address n), block_above L n n (omega arith))) (λ b f. omega (arith, same_other f, block_once L n b))

pub block_below : (L : Layout) (n i : ℕ) → i < n → occ (L.address i) (blocks L n) ≢ 0
block_below L zero i h = absurd (omega arith)
block_below L (suc n) i h = by (ℕ_discrete i n) (λ l. block_below L n i l)
  where
    by : Dec (i ≡ n) → (i < n → occ (L.address i) (blocks L n) ≢ 0) → occ (L.address i) (blocks L (suc n)) ≢ 0
    by (yes e) k = rw e (omega (arith, same_self (L.address n)))
    by (no f) k = let r = k (omega arith) in omega arith

-- a block below the frontier has a number
pub block_number_lem : (L : Layout) (n b : ℕ) → occ b (blocks L n) ≢ 0 → (i : ℕ) × (i < n) × (b ≡ L.address i)
block_number_lem L zero b m = absurd (m refl)
block_number_lem L (suc n) b m = by (ℕ_discrete b (L.address n)) (λ f. block_number_lem L n b (omega (arith, same_other f)))
  where
    by : Dec (b ≡ L.address n) → (b ≢ L.address n → (i : ℕ) × (i < n) × (b ≡ L.address i)) → (i : ℕ) × (i < suc n) × (b ≡ L.address i)
    by (yes e) k = (n, omega arith, e)
    by (no f) k = let r = k f in (r.0, omega arith, r.2)

pub block_nonzero : (L : Layout) (n b : ℕ) → occ b (blocks L n) ≢ 0 → b ≢ 0
block_nonzero L n b m z = let r = block_number_lem L n b m in L.nonzero r.0 (sym r.2 ∙ z)

-- a block that p's places in a list do not count
pub other_than : (p x : ℕ) → same p x ≡ 0 → x ≢ p
other_than p x z q = let s : same p x ≡ 1 = rw q (same_self p) in omega arith

pub chain_agree : (header header' : ℕ → ℕ) (first : ℕ) (bs : List ℕ) (end : ℕ) → ((b : ℕ) → occ b bs ≢ 0 → header' b ≡ header b) → Chain header first bs end → Chain header' first bs end
chain_agree header header' first [] end f c = c
chain_agree header header' first (b ∷ bs) end f c =
    (c.0, chain_agree header header' (header' b) bs end (λ x m. f x (omega arith)) (rw (f b (omega (arith, same_self b))) c.1))

-- where only block p, which is not in the list, is written
pub chain_frame : (header header' : ℕ → ℕ) (p first : ℕ) (bs : List ℕ) (end : ℕ) → Elsewhere p header header' → occ p bs ≡ 0 → Chain header first bs end → Chain header' first bs end
chain_frame header header' p first bs end f z = chain_agree header header' first bs end (λ b m. f b (differ_by_occ b p bs (omega arith)))

module _ (children children' : ℕ → List ℕ) (p : ℕ) (off : (x : ℕ) → x ≢ p → children' x ≡ children x) where
  pub refs_frame : (b : ℕ) (l : List ℕ) → occ p l ≡ 0 → refs children' b l ≡ refs children b l
  refs_frame b [] z = refl
  refs_frame b (x ∷ xs) z = let i = refs_frame b xs (omega arith) in rw (off x (other_than p x (omega arith)), i)

  pub newest_first_frame : (l : List ℕ) → occ p l ≡ 0 → NewestFirst children l → NewestFirst children' l
  newest_first_frame [] z o = tt
  newest_first_frame (x ∷ xs) z o = (λ b nz e. rw (off x (other_than p x (omega arith))) (o.0 b nz e), newest_first_frame xs (omega arith) o.1)

-- blocks newest first name none that is not among them
pub unnamed_outside : (children : ℕ → List ℕ) (l : List ℕ) (b : ℕ) → NewestFirst children l → b ≢ 0 → occ b l ≡ 0 → refs children b l ≡ 0
unnamed_outside children [] b o nz z = refl
unnamed_outside children (x ∷ xs) b o nz z = omega (arith, unnamed_outside children xs b o.1 nz (omega arith), o.0 b nz (omega arith))

-- a block that none of them names can go
pub removed_newest_first : {p : ℕ} {l ys : List ℕ} (children : ℕ → List ℕ) → Removed p l ys → NewestFirst children l → refs children p l ≡ 0 → NewestFirst children ys
removed_newest_first children here o z = o.1
removed_newest_first {p} children (there {x} {xs} {ys} r) o z =
    (split p (λ nz e. omega arith) (λ b f nz e. o.0 b nz (omega (arith, removed_occ b r, same_other f))), removed_newest_first children r o.1 (omega arith))
