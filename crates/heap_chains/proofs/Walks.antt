-- Lemmas: what the walks over first words come to, step by step and on a chain of blocks.
use Prim.Native.Nat.{ℕ, zero, suc, ◌-◌, ◌≤◌, ◌<◌}
use mathlib.Core.Path.{◌≡◌, refl, sym, ap, ◌∙◌}
use mathlib.Core.Logic.{◌≢◌}
use mathlib.Core.List.{List, [], ◌∷◌}
use native.Mathlib.Omega.{arith}
use lib.ListN.{length}
use borrow.Author.Tests.{eq-eqb, ne_eqb}
use Rattle.heap.specs.Counting.{occ}
use Rattle.heap.proofs.CountingLemmas.{same_self}
use Rattle.heap.specs.Blocks.{Chain}
use Rattle.heap_chains.specs.Blocks.{list_length, chain_length, chain_end}

less_one : (n : ℕ) → suc n - 1 ≡ n
less_one n = omega arith

module _ (h : ℕ → ℕ) where
  pub list_ends : (left b : ℕ) → b ≡ 0 → list_length h left b ≡ 0
  unfolding list_length
  list_ends zero b e = refl
  list_ends (suc left) b e = rw (eq-eqb b 0 e)

  pub list_goes : (left b : ℕ) → 0 < left → b ≢ 0 → list_length h left b ≡ suc (list_length h (left - 1) (h b))
  unfolding list_length
  list_goes zero b l n = absurd (omega arith)
  list_goes (suc left) b l n = rw (less_one left, ne_eqb b 0 n)

  pub chain_ends : (left b : ℕ) → h b ≡ 0 → (chain_length h left b ≡ 0) × (chain_end h left b ≡ b)
  unfolding chain_length chain_end
  chain_ends zero b e = (refl, refl)
  chain_ends (suc left) b e = (rw (eq-eqb (h b) 0 e), rw (eq-eqb (h b) 0 e))

  pub chain_goes : (left b : ℕ) → 0 < left → h b ≢ 0 → (chain_length h left b ≡ suc (chain_length h (left - 1) (h b))) × (chain_end h left b ≡ chain_end h (left - 1) (h b))
  unfolding chain_length chain_end
  chain_goes zero b l n = absurd (omega arith)
  chain_goes (suc left) b l n = (rw (less_one left, ne_eqb (h b) 0 n), rw (less_one left, ne_eqb (h b) 0 n))

  -- where no step is left
  pub list_stays : (left b : ℕ) → left ≤ 0 → list_length h left b ≡ 0
  unfolding list_length
  list_stays zero b l = refl
  list_stays (suc left) b l = absurd (omega arith)

  pub chain_stays : (left b : ℕ) → left ≤ 0 → (chain_length h left b ≡ 0) × (chain_end h left b ≡ b)
  unfolding chain_length chain_end
  chain_stays zero b l = (refl, refl)
  chain_stays (suc left) b l = absurd (omega arith)

  abbrev NoNull : List ℕ → Type 0
  NoNull bs = (b : ℕ) → occ b bs ≢ 0 → b ≢ 0

  first_there : (b : ℕ) (bs : List ℕ) → NoNull (b ∷ bs) → b ≢ 0
  first_there b bs n = n b (omega (arith, same_self b))

  rest_there : (b : ℕ) (bs : List ℕ) → NoNull (b ∷ bs) → NoNull bs
  rest_there b bs n x o = n x (omega arith)

  -- a list that ends in 0
  pub list_is : (bs : List ℕ) (first left : ℕ) → Chain h first bs 0 → NoNull bs → length bs ≤ left → list_length h left first ≡ length bs
  list_is [] first left c n l = list_ends left first c
  list_is (b ∷ bs) first left c n l =
      let z : first ≢ 0 = λ e. first_there b bs n (sym c.0 ∙ e) in
      list_goes left first (omega arith) z
      ∙ ap suc (list_is bs (h first) (left - 1) (rw c.0 c.1) (rest_there b bs n) (omega arith))

  chain_first : (bs : List ℕ) (first end : ℕ) → Chain h first bs end → NoNull bs → end ≢ 0 → first ≢ 0
  chain_first [] first end c n e = λ z. e (sym c ∙ z)
  chain_first (b ∷ bs) first end c n e = λ z. first_there b bs n (sym c.0 ∙ z)

  -- a chain that ends in a block whose first word is 0
  pub chain_is : (bs : List ℕ) (first end left : ℕ) → Chain h first bs end → NoNull bs → end ≢ 0 → h end ≡ 0 → length bs ≤ left
      → (chain_length h left first ≡ length bs) × (chain_end h left first ≡ end)
  chain_is [] first end left c n e z l = let w = chain_ends left first (ap h c ∙ z) in (w.0, w.1 ∙ c)
  chain_is (b ∷ bs) first end left c n e z l =
      let on : Chain h (h first) bs end = rw c.0 c.1 in
      let w = chain_goes left first (omega arith) (chain_first bs (h first) end on (rest_there b bs n) e) in
      let v = chain_is bs (h first) end (left - 1) on (rest_there b bs n) e z (omega arith) in
      (w.0 ∙ ap suc v.0, w.1 ∙ v.1)
