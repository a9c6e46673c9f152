-- The address arithmetic of blocks, for any number of fields, and what a change of words leaves of headers and fields.
-- No other file reasons on products by the block's size.
use mathlib.Core.Path.{◌≡◌, refl, sym, ap, ◌∙◌, fun_ext}
use mathlib.Core.Logic.{◌≢◌}
use mathlib.Core.List.{List, [], ◌∷◌, ◌++◌}
use Prim.Native.Nat.{ℕ, zero, suc, ◌+◌, ◌-◌, ◌*◌, ◌/◌, ◌≤◌, ◌<◌}
use native.Mathlib.Nat.{mul-le-mul_left, mul-le-mul_right, mul-div_cancel_left}
use native.Mathlib.Decide.{ℕ_discrete, dec_lt}
use native.Mathlib.Omega.{arith}
use borrow.Author.Tests.{eq-eqb, ne_eqb}
use lib.ListN.{length}
use Rattle.heap.specs.Blocks.{Cell, cell}
use Rattle.heap.specs.Words.{stride, word_at, address_of, block_number, by_address, headers, cells_from, block_fields}

-- words of two blocks are one only if the blocks and the places in them are
pub places_distinct : (field_count j x r s : ℕ) → r < stride field_count → s < stride field_count → word_at field_count j r ≡ word_at field_count x s → (j ≡ x) × (r ≡ s)
places_distinct field_count j x r s hr hs e = by (dec_lt j x) (dec_lt x j)
  where
    by : Dec (j < x) → Dec (x < j) → (j ≡ x) × (r ≡ s)
    by (yes a) _ = absurd (omega (arith, mul-le-mul_left (stride field_count) a))
    by (no a) (yes b) = absurd (omega (arith, mul-le-mul_left (stride field_count) b))
    by (no a) (no b) = let q : j ≡ x = omega arith in (q, omega (arith, ap (λ (y : ℕ). stride field_count * y) q))

-- two words of blocks, unless both the blocks and the places in them are the same
pub word_apart : (field_count x j w r : ℕ) → w < stride field_count → r < stride field_count → (x ≡ j → w ≢ r) → word_at field_count x w ≢ word_at field_count j r
word_apart field_count x j w r a b n e = let d = places_distinct field_count x j w r a b e in n d.0 d.1

-- a word that is not among those from a and below b of block j is another than word r, which is
pub word_outside : (field_count x j w r a b : ℕ) → w < stride field_count → r < stride field_count → a ≤ r → r < b → ((x ≡ j) × (a ≤ w) × (w < b) → ⊥) → word_at field_count x w ≢ word_at field_count j r
word_outside field_count x j w r a b h f l g n e = let d = places_distinct field_count x j w r h f e in n (d.0, omega (arith, d.1), omega (arith, d.1))

-- word w of one of N blocks is one of their words, and a block past them begins past their words
pub word_inside : (field_count N j w : ℕ) → j < N → w < stride field_count → word_at field_count j w < stride field_count * N
word_inside field_count N j w h f = omega (arith, mul-le-mul_left (stride field_count) h)

pub word_past : (field_count N j w : ℕ) → N ≤ j → stride field_count * N ≤ word_at field_count j w
word_past field_count N j w h = omega (arith, mul-le-mul_left (stride field_count) h)

-- so many blocks have so few words
pub heap_below : (field_count N : ℕ) → field_count ≤ 7 → stride field_count * N ≤ 16 * N
heap_below field_count N h = mul-le-mul_right N (omega arith)

pub number_of_address : (field_count j : ℕ) → block_number field_count (address_of field_count j) ≡ j
unfolding block_number
number_of_address field_count j =
    let e : (65536 + 8 * (stride field_count * j) - 65536) / 8 ≡ stride field_count * j = omega arith in
    rw e (mul-div_cancel_left j (omega arith))

module _ {A : Type 0} (field_count : ℕ) where
  by_address_at : (of : ℕ → A) (other : A) (j : ℕ) → by_address field_count of other (address_of field_count j) ≡ of j
  unfolding by_address
  by_address_at of other j = rw (number_of_address field_count j, eq-eqb (address_of field_count j) (address_of field_count j) refl)

  by_address_off : (of of' : ℕ → A) (other : A) (j : ℕ) → ((x : ℕ) → x ≢ j → of' x ≡ of x) → (b : ℕ) → b ≢ address_of field_count j → by_address field_count of' other b ≡ by_address field_count of other b
  unfolding by_address
  by_address_off of of' other j f b ne = by (ℕ_discrete (address_of field_count (block_number field_count b)) b)
    where
      by : Dec (address_of field_count (block_number field_count b) ≡ b) → by_address field_count of' other b ≡ by_address field_count of other b
      by (yes e) = rw (eq-eqb (address_of field_count (block_number field_count b)) b e) (f (block_number field_count b) (λ q. ne (sym e ∙ ap (address_of field_count) q)))
      by (no n) = rw (ne_eqb (address_of field_count (block_number field_count b)) b n)

module _ (field_count : ℕ) (words : ℕ → ℕ) where
  pub header_at : (j : ℕ) → headers field_count words (address_of field_count j) ≡ words (word_at field_count j 0)
  unfolding headers
  header_at j = by_address_at field_count (λ (j : ℕ). words (word_at field_count j 0)) 0 j

  pub fields_at : (j : ℕ) → block_fields field_count words (address_of field_count j) ≡ cells_from field_count words j 0 field_count
  unfolding block_fields
  fields_at j = by_address_at field_count (λ (j : ℕ). cells_from field_count words j 0 field_count) [] j

  pub cells_length : (j t n : ℕ) → length (cells_from field_count words j t n) ≡ n
  unfolding cells_from
  cells_length j t zero = refl
  cells_length j t (suc n) = ap suc (cells_length j (suc t) n)

  pub cells_append : (j t a b : ℕ) → cells_from field_count words j t (a + b) ≡ cells_from field_count words j t a ++ cells_from field_count words j (t + a) b
  unfolding cells_from
  cells_append j t zero b =
      let e : 0 + b ≡ b = omega arith in
      let e₂ : t + 0 ≡ t = omega arith in
      rw (e, e₂)
  cells_append j t (suc a) b =
      let e : suc a + b ≡ suc (a + b) = omega arith in
      let e₂ : t + suc a ≡ suc t + a = omega arith in
      rw (e, e₂) (ap (λ (z : List Cell). cell (words (word_at field_count j (2 + 2 * t))) (words (word_at field_count j (3 + 2 * t))) ∷ z) (cells_append j (suc t) a b))

module _ (field_count : ℕ) (words words' : ℕ → ℕ) where
  -- the words of the n fields are the same
  pub cells_agree : (j t n : ℕ) → ((w : ℕ) → 2 + 2 * t ≤ w → w < 2 + 2 * (t + n) → words' (word_at field_count j w) ≡ words (word_at field_count j w)) → cells_from field_count words' j t n ≡ cells_from field_count words j t n
  unfolding cells_from
  cells_agree j t zero f = refl
  cells_agree j t (suc n) f = rw (f (2 + 2 * t) (omega arith) (omega arith), f (3 + 2 * t) (omega arith) (omega arith), cells_agree j (suc t) n (λ w a b. f w (omega arith) (omega arith)))

  -- the first words of all blocks are the same; of all blocks but j
  pub header_all : ((x : ℕ) → words' (word_at field_count x 0) ≡ words (word_at field_count x 0)) → headers field_count words' ≡ headers field_count words
  unfolding headers
  header_all f = ap (λ (of : ℕ → ℕ). by_address field_count of 0) (fun_ext f)

  pub header_off : (j : ℕ) → ((x : ℕ) → x ≢ j → words' (word_at field_count x 0) ≡ words (word_at field_count x 0)) → (b : ℕ) → b ≢ address_of field_count j → headers field_count words' b ≡ headers field_count words b
  unfolding headers
  header_off j f = by_address_off field_count (λ (j : ℕ). words (word_at field_count j 0)) (λ (j : ℕ). words' (word_at field_count j 0)) 0 j f

  -- the fields' words of all blocks are the same; of all blocks but j
  pub fields_all : ((x w : ℕ) → 1 ≤ w → w < stride field_count → words' (word_at field_count x w) ≡ words (word_at field_count x w)) → block_fields field_count words' ≡ block_fields field_count words
  unfolding block_fields
  fields_all f = ap (λ (of : ℕ → List Cell). by_address field_count of []) (fun_ext (λ x. cells_agree x 0 field_count (λ w a b. f x w (omega arith) (omega arith))))

  pub fields_off : (j : ℕ) → ((x w : ℕ) → x ≢ j → w < stride field_count → words' (word_at field_count x w) ≡ words (word_at field_count x w)) → (b : ℕ) → b ≢ address_of field_count j
      → block_fields field_count words' b ≡ block_fields field_count words b
  unfolding block_fields
  fields_off j f =
      by_address_off field_count (λ (j : ℕ). cells_from field_count words j 0 field_count) (λ (j : ℕ). cells_from field_count words' j 0 field_count) [] j (λ x n. cells_agree x 0 field_count (λ w a b. f x w n (omega arith)))
