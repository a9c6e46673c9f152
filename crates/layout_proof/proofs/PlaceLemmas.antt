-- The place that a register and an offset name: a spill's word of the stack, a block's word of the heap; and what is read and written there.
use Rattle.std.specs.Prelude.{Some}
use mathlib.Core.Path.{◌≡◌, refl}
use mathlib.Core.Bool.{Bool, true, false, cond}
use Prim.Native.Nat.{ℕ, ◌+◌, ◌-◌, ◌*◌, ◌/◌, ◌%◌, ◌^◌, ◌≤◌, ◌<◌}
use native.Mathlib.Omega.{arith}
use lib.Dec.{ltb}
use borrow.Author.Tests.{le-ltb, lt-ltb, lt-leb, le-leb, ltb-true, ltb-false}
use Rattle.word.specs.Words.{sum}
use Rattle.layout.specs.declared.config.Shape.{Shape}
use Rattle.layout.specs.Config.{Supported, operands, block_words, stack_offset}
use Rattle.layout.specs.Frame.{stack_word, held_in}
use Rattle.machine_step.specs.declared.memory.Place.TheVariants.{Stack, Heap}
use Rattle.machine_step.specs.View.{View, put_reg, put_stk, put_mem}
use Rattle.machine_step.specs.Memory.{register, memory, place_of, value_of, assigned}
use Rattle.heap.proofs.WordLemmas.{word_inside, heap_below}
use Rattle.heap.specs.Words.{word_at}
use Rattle.layout_proof.specs.Held.{PlacedAt}
use Rattle.layout_proof.proofs.Operands.{operand_at, with_operand, block_address}
use Rattle.layout_proof.proofs.HeldLemmas.{held_register, held_spill}

pub stack_offset_lem : (G : Shape) → Supported G → (l : ℕ) → 16 ≤ l → l < operands G → stack_offset G l + 8 * l ≡ 8 * G.spills + 120
unfolding stack_offset
stack_offset_lem G s l a b = omega arith

module _ {G : Shape} {N : ℕ} (s : View) (v : PlacedAt G N (s.reg 0) s.depth s.size) where
  pub spill_place : (l : ℕ) → 16 ≤ l → l < operands G → place_of s.depth s.size (sum (s.reg 0) (stack_offset G l)) ≡ Stack (stack_word l)
  unfolding place_of sum
  spill_place l a b =
      let o : ℕ = stack_offset G l in
      let x : ℕ = s.reg 0 + o in
      let h : x ≡ 1099511627840 - 8 * l = omega (arith, stack_offset_lem G v.shape l a b, v.stack, v.shape.frame) in
      let e : (s.reg 0 + o) % 2 ^ 64 ≡ 1099511627840 - 8 * l = omega (arith, h, v.shape.frame) in
      let e1 : (1099511627840 - 8 * l) % 8 ≡ 0 = omega (arith, v.shape.frame) in
      let e2 : (1099511627768 - (1099511627840 - 8 * l)) / 8 ≡ l - 9 = omega (arith, v.shape.frame) in
      let e3 : 1099511627840 - 8 * l < 1099511627776 = omega (arith, v.shape.frame) in
      let e4 : l - 9 < s.depth = omega (arith, v.deep) in
      simp (e, e1, e2, lt-leb _ _ e3, lt-ltb _ _ e4)

  -- word w of block j, whose address a register holds
  pub block_place : (r j o w : ℕ) → s.reg r ≡ block_address G j → j < N → o ≡ 8 * w → w < block_words G → place_of s.depth s.size (sum (s.reg r) o) ≡ Heap (word_at G.fields j w)
  unfolding place_of sum
  block_place r j o w p h q f =
      let k : ℕ = word_at G.fields j w in
      let i : k < block_words G * N = word_inside G.fields N j w h f in
      let b : block_words G * N ≤ 16 * N = heap_below G.fields N v.shape.few in
      let e : (block_address G j + 8 * w) % 2 ^ 64 ≡ 65536 + 8 * k = omega arith in
      let e1 : (65536 + 8 * k) % 8 ≡ 0 = omega arith in
      let e2 : (65536 + 8 * k - 65536) / 8 ≡ k = omega arith in
      let e3 : 65536 + 8 * k < 1099511627776 = omega arith in
      let e6 : s.depth ≤ (1099511627768 - (65536 + 8 * k)) / 8 = omega (arith, v.deep, v.shape.frame) in
      let e4 : 65536 ≤ 65536 + 8 * k = omega arith in
      let e5 : k < block_words G * N = i in
      simp (p, q, v.words, e, e1, e2, lt-leb _ _ e3, le-ltb _ _ e6, le-leb _ _ e4, lt-ltb _ _ e5)

  module _ (r j o w : ℕ) (p : s.reg r ≡ block_address G j) (h : j < N) (q : o ≡ 8 * w) (f : w < block_words G) where
    pub block_read : value_of s (memory r o) ≡ Some (s.mem (word_at G.fields j w))
    block_read = rw (block_place r j o w p h q f)

    pub block_written : (x : ℕ) → assigned s (memory r o) x ≡ Some (put_mem s (word_at G.fields j w) x)
    block_written x = rw (block_place r j o w p h q f)

  module _ (l : ℕ) (a : 16 ≤ l) (b : l < operands G) where
    pub spill_read : value_of s (memory 0 (stack_offset G l)) ≡ Some (held_in s.reg s.stk l)
    spill_read = rw (spill_place l a b, held_spill s.reg s.stk l a)

    pub spill_written : (x : ℕ) → assigned s (memory 0 (stack_offset G l)) x ≡ Some (put_stk s (stack_word l) x)
    spill_written x = rw (spill_place l a b)

  -- a register or a spill
  module _ (l : ℕ) (b : l < operands G) where
    pub operand_read : value_of s (operand_at G l) ≡ Some (held_in s.reg s.stk l)
    operand_read = by (ltb l 16) refl
      where
        by : (t : Bool) → ltb l 16 ≡ t → value_of s (cond t (register l) (memory 0 (stack_offset G l))) ≡ Some (held_in s.reg s.stk l)
        by true e = rw (held_register s.reg s.stk l (ltb-true l 16 e))
        by false e = spill_read l (ltb-false l 16 e) b

    pub operand_written : (x : ℕ) → assigned s (operand_at G l) x ≡ Some (with_operand s l x)
    operand_written x = by (ltb l 16) refl
      where
        by : (t : Bool) → ltb l 16 ≡ t → assigned s (cond t (register l) (memory 0 (stack_offset G l))) x ≡ Some (cond t (put_reg s l x) (put_stk s (stack_word l) x))
        by true e = refl
        by false e = spill_written l (ltb-false l 16 e) b x
