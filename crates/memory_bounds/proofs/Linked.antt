-- How many records a store of linked variables has, by where they stand: the first six are in registers.
use Prim.Native.Nat.{ℕ, zero, suc, ◌+◌, ◌*◌, ◌-◌, ◌≤◌, ◌<◌}
use mathlib.Core.Path.{◌≡◌, refl, ap}
use mathlib.Core.Bool.{Bool, true, false, cond}
use native.Mathlib.Omega.{arith}
use native.Mathlib.Decide.{dec_lt}
use lib.Dec.{ltb}
use borrow.Author.Tests.{lt-ltb, le-ltb}
use Rattle.records.specs.declared.code.Code.TheVariants.{MOV, MOVS, MOVL}
use Rattle.trees.specs.Tree.{Tree, leaf, seq, size}
use Rattle.layout.specs.declared.config.Shape.{Shape}
use Rattle.layout.specs.Config.{STACK, TEMP, HEAP, stack_offset, fst_offset, snd_offset}
use Rattle.layout.specs.Positions.{location}
use Rattle.memory.specs.Blocks.{store_field, take_block, acquire_block}
use Rattle.memory.specs.Objects.{fst, snd, store_value, store_values, store_other, store_others, store_some, chunks}
use Rattle.memory.proofs.Flattened.{fields_size}
use Rattle.memory.proofs.Sizes.{zeros_size}
use Rattle.memory.proofs.Unfolded.{next_other}
use Rattle.memory_bounds.specs.Bounds.{linked, word_records}

-- where the two words of a variable stand
low : (p : ℕ) → p < 12 → location p < 16
unfolding location
low p h = rw (lt-ltb p 12 h) (omega arith)

high : (p : ℕ) → 12 ≤ p → 16 ≤ location p
unfolding location
high p h = rw (le-ltb p 12 h) (omega arith)

-- an operand is a register exactly where its variable is one of the first six
by_variable : (v p : ℕ) → 2 * v ≤ p → p ≤ 2 * v + 1 → ltb (location p) 16 ≡ ltb v 6
by_variable v p l h = by (dec_lt v 6)
  where
    by : Dec (v < 6) → ltb (location p) 16 ≡ ltb v 6
    by (yes z) = rw (lt-ltb v 6 z, lt-ltb (location p) 16 (low p (omega arith)))
    by (no z) = rw (le-ltb v 6 (omega arith), le-ltb (location p) 16 (high p (omega arith)))

choose : (b : Bool) (t u : Tree) → size t ≡ 1 → size u ≡ 2 → size (cond b t u) ≡ cond b 1 2
choose true t u p q = p
choose false t u p q = q

module _ (g : Shape) where
  pub fst_records : (v r offset : ℕ) → size (store_field g (fst v) r offset) ≡ word_records v
  fst_records v r offset =
      rw (by_variable v (2 * v) (omega arith) (omega arith))
      (choose (ltb v 6) (leaf (MOVS (fst v) r offset) refl) (seq (leaf (MOVL TEMP STACK (stack_offset g (fst v))) refl) (leaf (MOVS TEMP r offset) refl)) refl refl)

  snd_records : (v r offset : ℕ) → size (store_field g (snd v) r offset) ≡ word_records v
  snd_records v r offset =
      rw (by_variable v (2 * v + 1) (omega arith) (omega arith))
      (choose (ltb v 6) (leaf (MOVS (snd v) r offset) refl) (seq (leaf (MOVL TEMP STACK (stack_offset g (snd v))) refl) (leaf (MOVS TEMP r offset) refl)) refl refl)

  pub acquire_records : (v : ℕ) → size (acquire_block g (fst v)) ≡ 12 * g.fields + 17 + word_records v
  acquire_records v =
      let t : size (take_block g (fst v)) ≡ word_records v =
      rw (by_variable v (2 * v) (omega arith) (omega arith))
      (choose (ltb v 6) (leaf (MOV (fst v) HEAP) refl) (seq (leaf (MOV TEMP HEAP) refl) (leaf (MOVS HEAP STACK (stack_offset g (fst v))) refl)) refl refl) in
      omega (arith, t, (fields_size g.fields).1)

  value_records : (v t : ℕ) → size (store_value g linked v t) ≡ 2 * word_records v
  value_records v t = omega (arith, snd_records v HEAP (snd_offset t), fst_records v HEAP (fst_offset t))

  -- as many as have words in registers go by a record less for each word
  pub values_records : (v k free : ℕ) → k ≤ free → size (store_values g linked v k free) + 2 * (6 - v - (6 - (v + k))) ≡ 3 * k + free
  values_records v zero free h = omega (arith, (zeros_size free).1)
  values_records v (suc k) free h =
      by (dec_lt (v + k) 6) (value_records (v + k) (free - 1)) (values_records v k (free - 1) (omega arith))
    where
      by : Dec (v + k < 6) → size (store_value g linked (v + k) (free - 1)) ≡ 2 * word_records (v + k)
          → size (store_values g linked v k (free - 1)) + 2 * (6 - v - (6 - (v + k))) ≡ 3 * k + (free - 1)
          → size (store_values g linked v (suc k) free) + 2 * (6 - v - (6 - (v + suc k))) ≡ 3 * suc k + free
      by (yes z) e f = let w : word_records (v + k) ≡ 1 = rw (lt-ltb (v + k) 6 z) in omega arith
      by (no z) e f = let w : word_records (v + k) ≡ 2 = rw (le-ltb (v + k) 6 (omega arith)) in omega arith

  pub other_records : (v k : ℕ) → size (store_other g linked v k)
      ≡ word_records (v + k) + size (store_values g linked v k (g.fields - 1)) + 12 * g.fields + 17 + word_records v
  other_records v k = omega (arith, fst_records (v + k) HEAP (fst_offset (g.fields - 1)), acquire_records v)

  -- one block more, by the numbers that are added up for it
  pub block_more : {rest link values pointer : ℕ} (m v n : ℕ) → 2 ≤ g.fields → 0 < m → rest ≡ n - (g.fields - 1) → link ≡ word_records (v + n)
      → values ≡ size (store_values g linked (v + rest) (n - rest) (g.fields - 1)) → pointer ≡ word_records (v + rest)
      → size (store_others g linked m v n) ≡ link + values + 12 * g.fields + 17 + pointer + size (store_others g linked (m - 1) v rest)
  block_more m v n f h e l s p =
      let r = n - (g.fields - 1) in
      rw e
      (omega (
        arith,
        ap size (next_other g linked (g.fields - 1) (omega arith) m v n h),
        other_records (v + r) (n - r),
        rw e at s,
        rw e at p,
        ap word_records (end v n r (omega arith)),
      ))
    where
      end : (v n r : ℕ) → r ≤ n → v + r + (n - r) ≡ v + n
      end v n r h = omega arith

  -- all blocks, by the numbers that are added up for them
  pub some_records : {rest values pointer others : ℕ} (m v n : ℕ) → rest ≡ n - g.fields → m ≡ chunks (g.fields - 1) rest
      → values ≡ size (store_values g linked (v + rest) (n - rest) g.fields) → pointer ≡ word_records (v + rest)
      → others ≡ size (store_others g linked m v rest) → size (store_some g linked v n) ≡ values + (12 * g.fields + 17 + pointer) + others
  some_records m v n e c s p o =
      omega (arith, acquire_records (v + (n - g.fields)), rw e at s, rw e at p, rw (c, e) at o)
