-- The first word of the block at an address, by the tests of the code; and the counts put together.
use Prim.Native.Nat.{ℕ, ◌+◌, ◌*◌, ◌-◌, ◌/◌, ◌≤◌, ◌<◌}
use mathlib.Core.Path.{◌≡◌, sym, ap, ◌∙◌}
use mathlib.Core.Logic.{◌≢◌}
use native.Mathlib.Nat.{zero-div, mul-div-le, mul-le-mul_left}
use native.Mathlib.Omega.{arith}
use borrow.Author.Tests.{ne_eqb}
use Rattle.heap.specs.Words.{stride, address_of, block_number, by_address, headers}
use Rattle.heap.proofs.WordLemmas.{header_at}
use Rattle.heap_chains.specs.Blocks.{list_length, chain_length, chain_end, blocks_counted, fit_in}

-- blocks of so many fields
module _ (f : ℕ) where
  pub number_low : (b : ℕ) → b < 65536 → 0 ≡ block_number f b
  unfolding block_number
  number_low b h = let z : (b - 65536) / 8 ≡ 0 = omega arith in rw (z, zero-div (stride f))

  pub number_high : (b : ℕ) {block : ℕ} → block ≡ stride f → (b - 65536) / 8 / block ≡ block_number f b
  unfolding block_number
  number_high b e = rw e

  -- the bytes of the blocks before it come before its address
  pub number_bytes : (b : ℕ) → 8 * (stride f * block_number f b) ≤ b - 65536
  unfolding block_number
  number_bytes b = omega (arith, mul-div-le ((b - 65536) / 8) (stride f))

  -- its first word, by the words of a block and its number
  pub at_block : (b : ℕ) {block number : ℕ} → block ≡ stride f → number ≡ block_number f b → block * number ≡ stride f * block_number f b
  at_block b e n = rw (e, n)

  module _ (words : ℕ → ℕ) (b : ℕ) {at : ℕ} (e : at ≡ stride f * block_number f b) where
    -- no block begins at b
    pub no_block : 65536 + 8 * at ≢ b → 0 ≡ headers f words b
    unfolding headers by_address
    no_block n = rw (ne_eqb (address_of f (block_number f b)) b (rw e at n))

    pub block_starts : 65536 + 8 * at ≡ b → words at ≡ headers f words b
    block_starts h =
        let i : at ≡ stride f * block_number f b + 0 = omega arith in
        let a : address_of f (block_number f b) ≡ b = rw e at h in
        ap words i ∙ sym (header_at f words (block_number f b)) ∙ ap (headers f words) a

-- on a heap of so many words, by the words of a block
module _ (f size : ℕ) (words : ℕ → ℕ) {block : ℕ} (k : block ≡ stride f) where
  pub counts : (heap free : ℕ) {linear lazy end frontier used held untouched : ℕ} → linear ≡ list_length (headers f words) (size / block) heap
      → lazy ≡ chain_length (headers f words) (size / block) free → end ≡ chain_end (headers f words) (size / block) free → frontier ≡ block_number f end
      → used ≡ frontier - linear → held ≡ used - lazy → untouched ≡ size / block - frontier
      → record { linear = linear; lazy = lazy; held = held; untouched = untouched } ≡ blocks_counted f (size / stride f) words heap free
  unfolding blocks_counted
  counts heap free l z e n u h t = rw (h, t, u, n, e, l, z, k)

  pub fits : (free : ℕ) {end frontier peak : ℕ} → end ≡ chain_end (headers f words) (size / block) free → frontier ≡ block_number f end → peak ≡ frontier - 1
      → record { peak = peak; blocks = peak + 2; bytes = 8 * block * (peak + 2) } ≡ fit_in f (size / stride f) words free
  unfolding fit_in
  fits free {peak = peak} e n p = let q : peak + 2 ≡ 2 + peak = omega arith in rw (q, p, n, e, k)

-- the bytes of two blocks more than the peak
pub fit_bytes : (f end : ℕ) {block frontier peak : ℕ} → f ≤ 7 → block ≡ stride f → frontier ≡ block_number f end → peak ≡ frontier - 1
    → 8 * block * (peak + 2) ≤ end - 65536 + 256
fit_bytes f end {block} {frontier} {peak} h k n p =
    let m : stride f * peak ≤ stride f * frontier = mul-le-mul_left (stride f) (omega arith) in
    let b : 8 * (stride f * frontier) ≤ end - 65536 = rw n (number_bytes f end) in
    rw k (omega arith)
