-- How many records a load has at most, by the number of its variables: with its blocks released, and with its pointers shared.
-- Register 4 is set aside once: where it is borrowed for a block, it stays so for those after it.
use Prim.Native.Nat.{ℕ, zero, suc, ◌+◌, ◌*◌, ◌-◌, ◌≤◌, ◌<◌}
use mathlib.Core.Path.{refl}
use mathlib.Core.Bool.{Bool, true, false, not, cond}
use native.Mathlib.Nat.{mul-suc}
use native.Mathlib.Omega.{arith}
use lib.Dec.{ltb, eqb}
use borrow.Author.Tests.{lt-ltb}
use Rattle.records.specs.declared.code.Code.TheVariants.{ADDIM, MOVL, CMPIM}
use Rattle.records.proofs.Conditions.{both_ways}
use Rattle.trees.specs.Tree.{Tree, nop, leaf, seq, if_zero, size}
use Rattle.layout.specs.declared.config.Shape.{Shape}
use Rattle.layout.specs.Config.{Supported, STACK, TEMP, RETURN1, stack_offset, fst_offset, snd_offset, MINUSONE, register_for}
use Rattle.memory.specs.Objects.{fst, snd, chunks, load_fst, set_aside, load_value, load_values, load_body, load_spilled, freed, load_others, load_some, load_object}
use Rattle.memory.proofs.Sizes.{chunks_fill, load_field_size, load_values_size, link_size, aside_size, restore_size}
use Rattle.memory_bounds.specs.Bounds.{loaded_within}

-- a block in a register or in a spill, and what would set register 4 aside after it
block_then : (g : Shape) (in_register : Bool) (t u : Tree) (n : ℕ) → size t + 1 ≤ n → size u ≤ n → size (cond in_register t u) + size (set_aside g (not in_register)) ≤ n
block_then g true t u n p q = p
block_then g false t u n p q = omega arith

module _ (g : Shape) (ext : ℕ → Bool) where
  fst_released : (integer : Bool) (v t r : ℕ) → size (load_fst g integer false v t r) ≤ 2
  fst_released true v t r = omega arith
  fst_released false v t r = omega (arith, (load_field_size g (fst v) r (fst_offset t)).1)

  value_released : (v t r : ℕ) → size (load_value g ext false v t r) ≤ 4
  value_released v t r = omega (arith, (load_field_size g (snd v) r (snd_offset t)).1, fst_released (ext v) v t r)

  values_released : (v k free r : ℕ) → size (load_values g ext false v k free r) ≤ 4 * k
  values_released v zero free r = omega arith
  values_released v (suc k) free r = omega (arith, value_released (v + k) (free - 1) r, values_released v k (free - 1) r)

  -- of a block that is not the last, and of the last: as many as are in it, and one for register 4
  abbrev other_most : Bool → ℕ
  other_most true = 8 * (g.fields - 1) + 3
  other_most false = 4 * (g.fields - 1) + 5

  abbrev last_most : Bool → ℕ
  last_most true = 8 * g.fields
  last_most false = 4 * g.fields + 2

  other_body : (shared : Bool) (v k r : ℕ) → k ≤ g.fields - 1 → size (load_body g ext shared true v k r) + 1 ≤ other_most shared
  other_body true v k r h = omega (arith, (link_size g true (v + k) r).1, (load_values_size g ext true v k (g.fields - 1) r).1)
  other_body false v k r h = omega (arith, (link_size g true (v + k) r).1, values_released v k (g.fields - 1) r)

  last_body : (shared : Bool) (v k r : ℕ) → k ≤ g.fields → size (load_body g ext shared false v k r) ≤ last_most shared
  last_body true v k r h = omega (arith, (load_values_size g ext true v k g.fields r).1)
  last_body false v k r h = omega (arith, values_released v k g.fields r)

  module _ (sup : Supported g) where
    module _ (shared : Bool) where
      others_most : (m v n : ℕ) → (g.fields - 1) * m < n + (g.fields - 1)
          → size (load_others g ext shared m v n) + size (set_aside g (freed g ext v n)) ≤ other_most shared * m + 1
      others_most zero v n h = omega (arith, (aside_size g (freed g ext v n)).1)
      others_most (suc m) v n h =
          let c : ℕ = g.fields - 1 in
          let w : ℕ = v + (n - c) in
          let k : ℕ = n - (n - c) in
          let aside : Bool = freed g ext v (n - c) in
          let z = others_most m v (n - c) (omega (arith, sup.some)) in
          let b =
          block_then g (ltb (fst w) 16) (load_body g ext shared true w k (fst w)) (load_spilled g ext shared true aside w k)
          (size (set_aside g aside) + other_most shared)
          (omega (arith, other_body shared w k (fst w) (omega arith))) (omega (arith, other_body shared w k RETURN1 (omega arith))) in
          rw (lt-ltb 0 n (omega arith), mul-suc) (omega arith)

      some_most : (v n : ℕ) → size (load_some g ext shared v n) ≤ other_most shared * chunks (g.fields - 1) (n - g.fields) + 1 + (last_most shared + 2)
      some_most v n =
          let f : ℕ = g.fields in
          let w : ℕ = v + (n - f) in
          let k : ℕ = n - (n - f) in
          let aside : Bool = freed g ext v (n - f) in
          let z = others_most (chunks (f - 1) (n - f)) v (n - f) (chunks_fill (f - 1) (n - f) (omega (arith, sup.some))).1 in
          let b =
          both_ways (λ (t : Tree). size t ≤ size (set_aside g aside) + last_most shared + 2) (ltb (fst w) 16) {x = load_body g ext shared false w k (fst w)} {y = load_spilled g ext shared false aside w k}
          (omega (arith, last_body shared w k (fst w) (omega arith))) (omega (arith, last_body shared w k RETURN1 (omega arith), (restore_size g false).1)) in
          omega arith

    pub load_within : (v n : ℕ) → size (load_object g ext v n) ≤ loaded_within g n
    load_within v n =
        let r : ℕ = register_for (fst v) in
        let p : Tree = leaf (MOVL TEMP STACK (stack_offset g (fst v))) refl in
        let c : Tree = if_zero (CMPIM r 0 0) refl (load_some g ext false v n) (seq (leaf (ADDIM r 0 MINUSONE) refl) (load_some g ext true v n)) in
        let y = both_ways (λ (t : Tree). size t ≤ 1) (ltb (fst v) 16) {x = nop} {y = p} (omega arith) (omega arith) in
        both_ways (λ (t : Tree). size t ≤ loaded_within g n) (eqb n 0) (omega arith) (omega (arith, some_most false v n, some_most true v n))
