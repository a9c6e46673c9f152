-- What an order whose places are there, and whose positions are, says of its operands.
use Prim.Native.Nat.{ℕ, ◌+◌, ◌*◌, ◌-◌, ◌≤◌, ◌<◌}
use mathlib.Core.Path.{◌≡◌, refl}
use mathlib.Core.Bool.{Bool, true, false, ◌&&◌, cond}
use mathlib.Core.List.{List}
use native.Mathlib.Omega.{arith}
use native.Mathlib.Decide.{ℕ_discrete}
use lib.Dec.{ltb, eqb}
use borrow.Author.Tests.{eq-eqb, ne_eqb, lt-ltb, ltb-true, leb-true}
use Rattle.records.proofs.Conditions.{and_left, and_right}
use Rattle.records.specs.declared.order.Calculation.{Calculation}
use Rattle.records.specs.declared.order.Order.{Order}
use Rattle.records.specs.declared.order.Order.TheVariants.{Put, Compute, Copy, Drop, Store, Load, Print}
use Rattle.records.specs.Contexts.{ext_at}
use Rattle.layout.specs.declared.config.Shape.{Shape}
use Rattle.layout.specs.Config.{Supported, positions, most_variables}
use Rattle.memory.specs.LoadAnswered.{load_fits}
use Rattle.order_spec.specs.Writes.{present, asked}
use Rattle.order_check.specs.After.{count_after}

module _ (c : List ℕ) (k : ℕ) (b : List ℕ) {o : Order} where
  module _ (value : ℕ) (e : o ≡ Put value) where
    pub put_fits : {G : Shape} → Supported G → asked c k b o ≤ positions G → 2 * k + 2 < positions G
    unfolding asked
    put_fits {G} s h = let w : 2 * k + 2 ≤ positions G = rw e at h in omega (arith, s.even)

  module _ (operation : Calculation) (x y : ℕ) (e : o ≡ Compute operation x y) where
    pub compute_fits : {G : Shape} → Supported G → asked c k b o ≤ positions G → 2 * k + 2 < positions G
    unfolding asked
    compute_fits {G} s h = let w : 2 * k + 2 ≤ positions G = rw e at h in omega (arith, s.even)

    pub compute_there : present c k b o ≡ true → (x < k) × (y < k)
    unfolding present
    compute_there h =
        let g : (ltb x k && ltb y k) ≡ true = rw e at h in
        (ltb-true x k (and_left (ltb x k) (ltb y k) g), ltb-true y k (and_right (ltb x k) (ltb y k) g))

  module _ (a n : ℕ) (e : o ≡ Copy a n) where
    pub copy_there : present c k b o ≡ true → a < k
    unfolding present
    copy_there h = ltb-true a k (rw e at h)

    pub copy_asks : {p : ℕ} → asked c k b o ≤ p → cond (eqb n 0) (cond (ext_at c a) 0 (2 * a + 1)) (2 * (k + n)) ≤ p
    unfolding asked
    copy_asks h = rw e at h

  module _ (e : o ≡ Drop) where
    pub drop_there : present c k b o ≡ true → 0 < k
    unfolding present
    drop_there h = ltb-true 0 k (rw e at h)

    pub drop_asks : {p : ℕ} → asked c k b o ≤ p → cond (ext_at c (k - 1)) 0 (2 * (k - 1) + 1) ≤ p
    unfolding asked
    drop_asks h = rw e at h

  module _ (n tag : ℕ) (e : o ≡ Store n tag) where
    pub store_there : present c k b o ≡ true → n ≤ k
    unfolding present
    store_there h = leb-true n k (rw e at h)

    pub store_fits : {G : Shape} → Supported G → n ≤ k → asked c k b o ≤ positions G → (2 * k < positions G) × (2 * (k - n) + 2 < positions G)
    unfolding asked
    store_fits {G} s l h = by (ℕ_discrete n 0)
      where
        g : cond (eqb n 0) (2 * k + 2) (2 * k) ≤ positions G
        g = rw e at h

        by : Dec (n ≡ 0) → (2 * k < positions G) × (2 * (k - n) + 2 < positions G)
        by (yes z) = let w : 2 * k + 2 ≤ positions G = rw (eq-eqb n 0 z) at g in (omega arith, omega (arith, s.even))
        by (no z) = let w : 2 * k ≤ positions G = rw (ne_eqb n 0 z) at g in (omega (arith, s.even), omega (arith, s.even))

  module _ (n : ℕ) (e : o ≡ Load n) where
    pub load_there : present c k b o ≡ true → 0 < k
    unfolding present
    load_there h = ltb-true 0 k (rw e at h)

    pub load_fits_lem : (G : Shape) → asked c k b o ≤ positions G → load_fits G (k - 1) n ≡ true
    unfolding asked
    load_fits_lem G h = by (ℕ_discrete n 0)
      where
        g : cond (eqb n 0) 0 (2 * (k - 1 + n)) ≤ positions G
        g = rw e at h

        by : Dec (n ≡ 0) → load_fits G (k - 1) n ≡ true
        by (yes z) = rw (eq-eqb n 0 z)
        by (no z) =
            let w : 2 * (k - 1 + n) ≤ positions G = rw (ne_eqb n 0 z) at g in
            let l : 2 * (k - 1 + n) - 1 < positions G = omega arith in
            rw (ne_eqb n 0 z, lt-ltb (2 * (k - 1 + n) - 1) (positions G) l)

    pub load_few : (G : Shape) → asked c k b o ≤ positions G → n ≤ most_variables G
    unfolding asked
    load_few G h = by (ℕ_discrete n 0)
      where
        g : cond (eqb n 0) 0 (2 * (k - 1 + n)) ≤ positions G
        g = rw e at h

        by : Dec (n ≡ 0) → n ≤ most_variables G
        by (yes z) = omega arith
        by (no z) = let w : 2 * (k - 1 + n) ≤ positions G = rw (ne_eqb n 0 z) at g in omega arith

  module _ (newline : Bool) (a : ℕ) (e : o ≡ Print newline a) where
    pub print_there : present c k b o ≡ true → a < k
    unfolding present
    print_there h = ltb-true a k (rw e at h)

    pub print_fits : {G : Shape} → Supported G → asked c k b o ≤ positions G → 2 * a + 2 < positions G
    unfolding asked
    print_fits {G} s h = let w : 2 * a + 2 ≤ positions G = rw e at h in omega (arith, s.even)

-- the Fst of a linked variable
pub linked_fits : {ext : Bool} {p : ℕ} (a : ℕ) → ext ≡ false → cond ext 0 (2 * a + 1) ≤ p → 2 * a < p
linked_fits {p = p} a e h = let g : 2 * a + 1 ≤ p = rw e at h in omega arith

-- of a copy: no position past the last for the object shared, nor for the new variables
module _ {G : Shape} (s : Supported G) (ext : Bool) (a k n : ℕ) (l : a < k) (h : cond (eqb n 0) (cond ext 0 (2 * a + 1)) (2 * (k + n)) ≤ positions G) where
  pub copies_fit : (n ≡ 0 → ⊥) → 2 * (k + n) < positions G
  copies_fit z = let g : 2 * (k + n) ≤ positions G = rw (ne_eqb n 0 z) at h in omega (arith, s.even)

  pub share_fits : cond ext 0 (2 * a + 1) ≤ positions G
  share_fits = by (ℕ_discrete n 0) ext refl
    where
      by : Dec (n ≡ 0) → (x : Bool) → ext ≡ x → cond x 0 (2 * a + 1) ≤ positions G
      by (yes z) x e = rw (eq-eqb n 0 z, e) at h
      by (no z) true e = omega arith
      by (no z) false e = omega (arith, copies_fit z)

  pub copies_few : n ≤ most_variables G
  copies_few = by (ℕ_discrete n 0)
    where
      by : Dec (n ≡ 0) → n ≤ most_variables G
      by (yes z) = omega arith
      by (no z) = omega (arith, copies_fit z)

-- few bindings are left
pub few_after : {G : Shape} → Supported G → (c : List ℕ) (k : ℕ) (b : List ℕ) (o : Order) → present c k b o ≡ true → asked c k b o ≤ positions G → count_after k o ≤ k + most_variables G
few_after s c k b (Put value) p h = omega arith
few_after s c k b (Compute operation x y) p h = omega arith
few_after s c k b (Copy a n) p h =
    omega (arith, copies_few s (ext_at c a) a k n (copy_there c k b a n refl p) (copy_asks c k b a n refl h))
few_after s c k b Drop p h = omega arith
few_after s c k b (Store n tag) p h = omega arith
few_after {G} s c k b (Load n) p h = omega (arith, load_few c k b n refl G h)
few_after s c k b (Print newline a) p h = omega arith
