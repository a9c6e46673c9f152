-- The abstract memory that the lent heap's words show: blocks of some number of fields, from address 65,536.
-- From the scope, 'Blocks and objects': count or next pointer first, one word unused, then Fst and Snd of each field. Words are numbered from the heap's first.
use Rattle.std.specs.Prelude.{◌≡◌, List, [], ◌∷◌, ℕ, zero, suc, ◌+◌, ◌-◌, ◌*◌, ◌/◌, cond, eqb}
use Rattle.std.proofs.Common.{sym, ap, ◌∙◌, arith}
use Rattle.std.proofs.Math.Nat.{mul-div_cancel_left}
use Rattle.heap.specs.Blocks.{Layout, Cell, cell, Memory}

-- the words of a block
abbrev pub stride : ℕ → ℕ
stride field_count = 2 + 2 * field_count

-- word w of block j, as the heap's words are numbered
abbrev pub word_at : ℕ → ℕ → ℕ → ℕ
word_at field_count j w = stride field_count * j + w

-- block j's address
abbrev pub address_of : ℕ → ℕ → ℕ
address_of field_count j = 65536 + 8 * (stride field_count * j)

-- the blocks' addresses: none is 0, and no two are the same
abbrev pub layout : ℕ → Layout
layout field_count = record {
  address = address_of field_count;
  nonzero = λ j. omega arith;
  distinct = λ i j e. let same : stride field_count * i ≡ stride field_count * j = omega arith in sym (mul-div_cancel_left i (omega arith)) ∙ ap (λ (x : ℕ). x / stride field_count) same ∙ mul-div_cancel_left j (omega arith);
}

-- the number of the block at an address
unfoldable pub block_number : ℕ → ℕ → ℕ
block_number field_count b = ((b - 65536) / 8) / stride field_count

-- a function of block numbers as one of addresses, with another answer where no block begins
unfoldable pub by_address : {A : Type 0} → ℕ → (ℕ → A) → A → ℕ → A
by_address field_count of other b = cond (eqb (address_of field_count (block_number field_count b)) b) (of (block_number field_count b)) other

unfoldable pub headers : ℕ → (ℕ → ℕ) → ℕ → ℕ
headers field_count words = by_address field_count (λ (j : ℕ). words (word_at field_count j 0)) 0

-- n fields of block j from field t
unfoldable pub cells_from : ℕ → (ℕ → ℕ) → ℕ → ℕ → ℕ → List Cell
cells_from field_count words j t zero = []
cells_from field_count words j t (suc n) = cell (words (word_at field_count j (2 + 2 * t))) (words (word_at field_count j (3 + 2 * t))) ∷ cells_from field_count words j (suc t) n

unfoldable pub block_fields : ℕ → (ℕ → ℕ) → ℕ → List Cell
block_fields field_count words = by_address field_count (λ (j : ℕ). cells_from field_count words j 0 field_count) []

abbrev pub memory_of : ℕ → (ℕ → ℕ) → ℕ → ℕ → Memory
memory_of field_count words linear_head lazy_head = record { header = headers field_count words; fields = block_fields field_count words; linear_head = linear_head; lazy_head = lazy_head }
