-- Laws of the counts: of joined and repeated lists, of a list without one place of a number, and of lists by their lengths.
-- A statement of every block is split into one block and the others, so that `omega` closes both.
use mathlib.Core.Path.{◌≡◌, refl, sym, ap, subst}
use mathlib.Core.Logic.{◌≢◌}
use mathlib.Core.List.{List, [], ◌∷◌, ◌++◌}
use Prim.Native.Nat.{ℕ, zero, suc, ◌+◌, ◌*◌, ◌≤◌}
use native.Mathlib.Decide.{ℕ_discrete}
use native.Mathlib.Omega.{arith}
use borrow.Author.Tests.{eq-eqb, ne_eqb}
use lib.ListN.{length, replicate}
use Rattle.heap.specs.Counting.{same, occ, refs}
use Rattle.heap.specs.Blocks.{Cell, pointers}

pub same_self : (a : ℕ) → same a a ≡ 1
unfolding same
same_self a = rw (eq-eqb a a refl)

pub same_other : {a b : ℕ} → a ≢ b → same a b ≡ 0
unfolding same
same_other {a} {b} f = rw (ne_eqb a b f)

-- a statement of every number from that of one number and that of the others
split_by : {P : ℕ → Type 0} (p b : ℕ) → Dec (b ≡ p) → P p → ((b : ℕ) → b ≢ p → P b) → P b
split_by {P} p b (yes e) x f = subst (λ (n : ℕ). P n) (sym e) x
split_by p b (no g) x f = f b g

pub split : {P : ℕ → Type 0} (p : ℕ) → P p → ((b : ℕ) → b ≢ p → P b) → (b : ℕ) → P b
split p x f b = split_by p b (ℕ_discrete b p) x f

-- two numbers differ where one stands in a list more often than the other
pub differ_by_occ : (a b : ℕ) (l : List ℕ) → occ a l ≢ occ b l → a ≢ b
differ_by_occ a b l f e = f (ap (λ (x : ℕ). occ x l) e)

pub occ_append : (b : ℕ) (xs ys : List ℕ) → occ b (xs ++ ys) ≡ occ b xs + occ b ys
occ_append b [] ys = omega arith
occ_append b (x ∷ xs) ys = omega (arith, occ_append b xs ys)

pub occ_pointers : (b : ℕ) (xs ys : List Cell) → occ b (pointers (xs ++ ys)) ≡ occ b (pointers xs) + occ b (pointers ys)
occ_pointers b [] ys = omega arith
occ_pointers b (x ∷ xs) ys = omega (arith, occ_pointers b xs ys)

pub pointers_length : (cs : List Cell) → length (pointers cs) ≡ length cs
pointers_length [] = refl
pointers_length (c ∷ cs) = ap suc (pointers_length cs)

pub occ_replicate : (n p : ℕ) → occ p (replicate n p) ≡ n
occ_replicate zero p = refl
occ_replicate (suc n) p = omega (arith, occ_replicate n p, same_self p)

pub occ_replicate_other : (n p b : ℕ) → b ≢ p → occ b (replicate n p) ≡ 0
occ_replicate_other zero p b f = refl
occ_replicate_other (suc n) p b f = omega (arith, occ_replicate_other n p b f, same_other f)

pub occ_length : (b : ℕ) (l : List ℕ) → occ b l ≤ length l
occ_length b [] = omega arith
occ_length b (x ∷ xs) = omega (arith, occ_length b xs, split {P = λ (y : ℕ). same y x ≤ 1} x (omega (arith, same_self x)) (λ y f. omega (arith, same_other f)) b)

pub refs_none : (children : ℕ → List ℕ) (b : ℕ) (l : List ℕ) → length l ≡ 0 → refs children b l ≡ 0
refs_none children b [] z = refl
refs_none children b (x ∷ xs) z = absurd (omega arith)

-- with at most so many fields in each of the blocks
pub refs_length : (children : ℕ → List ℕ) (most b : ℕ) (l : List ℕ) → ((x : ℕ) → occ x l ≢ 0 → length (children x) ≤ most) → refs children b l ≤ most * length l
refs_length children most b [] h = omega arith
refs_length children most b (x ∷ xs) h =
    omega (arith, refs_length children most b xs (λ y m. h y (omega arith)), occ_length b (children x), h x (omega (arith, same_self x)))

-- a list, and what is left of it without one place of a number
pub data Removed (p : ℕ) : List ℕ → List ℕ → Type 0 where
  here : {xs : List ℕ} → Removed p (p ∷ xs) xs
  there : {x : ℕ} {xs ys : List ℕ} → Removed p xs ys → Removed p (x ∷ xs) (x ∷ ys)

remove_from : (p x : ℕ) (xs : List ℕ) → Dec (p ≡ x) → (p ≢ x → (ys : List ℕ) × Removed p xs ys) → (ys : List ℕ) × Removed p (x ∷ xs) ys
remove_from p x xs (yes e) f = subst (λ (n : ℕ). (ys : List ℕ) × Removed p (n ∷ xs) ys) e (xs, here)
remove_from p x xs (no g) f = let r = f g in (x ∷ r.0, there r.1)

pub remove : (p : ℕ) (l : List ℕ) → occ p l ≢ 0 → (ys : List ℕ) × Removed p l ys
remove p [] h = absurd (h refl)
remove p (x ∷ xs) h = remove_from p x xs (ℕ_discrete p x) (λ g. remove p xs (omega (arith, same_other g)))

pub removed_occ : {p : ℕ} {l ys : List ℕ} (b : ℕ) → Removed p l ys → occ b l ≡ same b p + occ b ys
removed_occ b here = refl
removed_occ b (there r) = omega (arith, removed_occ b r)

pub removed_refs : {p : ℕ} {l ys : List ℕ} (children : ℕ → List ℕ) (b : ℕ) → Removed p l ys → refs children b l ≡ occ b (children p) + refs children b ys
removed_refs children b here = refl
removed_refs children b (there r) = omega (arith, removed_refs children b r)

pub removed_length : {p : ℕ} {l ys : List ℕ} → Removed p l ys → length l ≡ suc (length ys)
removed_length here = refl
removed_length (there r) = ap suc (removed_length r)

-- what is left of a list without the places of another
pub subtract : (children : ℕ → List ℕ) (xs l : List ℕ) → ((b : ℕ) → occ b xs ≤ occ b l)
    → (left : List ℕ) × ((b : ℕ) → occ b l ≡ occ b xs + occ b left) × ((b : ℕ) → refs children b l ≡ refs children b xs + refs children b left)
subtract children [] l h = (l, (λ b. omega arith), λ b. omega arith)
subtract children (x ∷ xs) l h =
    let q = remove x l (omega (arith, h x, same_self x)) in
    let r = subtract children xs q.0 (λ b. omega (arith, h b, removed_occ b q.1)) in
    (r.0, (λ b. omega (arith, r.1 b, removed_occ b q.1)), λ b. omega (arith, r.2 b, removed_refs children b q.1))

pub length_le : (xs ys : List ℕ) → ((b : ℕ) → occ b xs ≤ occ b ys) → length xs ≤ length ys
length_le [] ys h = omega arith
length_le (x ∷ xs) ys h =
    let q = remove x ys (omega (arith, h x, same_self x)) in
    omega (arith, removed_length q.1, length_le xs q.0 (λ b. omega (arith, h b, removed_occ b q.1)))

-- a block of the list adds its pointers to refs; and where refs is not zero, a block of the list has one
pub refs_member : (children : ℕ → List ℕ) (y b : ℕ) (l : List ℕ) → occ y l ≢ 0 → occ b (children y) ≤ refs children b l
refs_member children y b l f = omega (arith, removed_refs children b (remove y l f).1)

pub refs_find : (children : ℕ → List ℕ) (b : ℕ) (l : List ℕ) → refs children b l ≢ 0 → (y : ℕ) × (occ y l ≢ 0) × (occ b (children y) ≢ 0)
refs_find children b [] r = absurd (r refl)
refs_find children b (x ∷ xs) r = by (ℕ_discrete (occ b (children x)) 0) (refs_find children b xs)
  where
    by : Dec (occ b (children x) ≡ 0) → (refs children b xs ≢ 0 → (y : ℕ) × (occ y xs ≢ 0) × (occ b (children y) ≢ 0)) → (y : ℕ) × (occ y (x ∷ xs) ≢ 0) × (occ b (children y) ≢ 0)
    by (yes z) f = let q = f (omega arith) in (q.0, omega arith, q.2)
    by (no z) f = (x, omega (arith, same_self x), z)
