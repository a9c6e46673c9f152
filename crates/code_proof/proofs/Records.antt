-- The trees of one record by what their operands are, a register or a spill: each is one move, sum or compare of operands.
use Rattle.std.specs.Prelude.{Some}
use Prim.Native.Nat.{ℕ, ◌≤◌, ◌<◌}
use mathlib.Core.Path.{◌≡◌, refl, sym, ap, ◌∙◌}
use mathlib.Core.Bool.{Bool, true, false, cond}
use native.Mathlib.Omega.{arith}
use lib.Dec.{ltb}
use borrow.Author.Tests.{lt-ltb, le-ltb}
use Rattle.records.specs.declared.code.Code.TheVariants.{MOV, MOVS, MOVL, MOVI, MOVIM}
use Rattle.trees.specs.Tree.{leaf}
use Rattle.layout.specs.declared.config.Shape.{Shape}
use Rattle.layout.specs.Config.{STACK, operands, stack_offset}
use Rattle.code.specs.Code.{register_register, register_spill, spill_register, move_from, move_to, to_register, load_immediate}
use Rattle.word.specs.Words.{sum, difference, product}
use Rattle.machine_step.specs.Memory.{register, memory, immediate, value_of, assigned}
use Rattle.machine_step.specs.Step.{Config, move, calculate, step}
use Rattle.trees_proof.specs.Evaluation.{evaluate, evaluated}
use Rattle.layout_proof.specs.Held.{held, Placed}
use Rattle.layout_proof.proofs.Operands.{operand_at, with_operand}
use Rattle.layout_proof.proofs.HeldLemmas.{held_register, in_frame}
use Rattle.layout_proof.proofs.PlaceLemmas.{operand_read, operand_written, spill_read, spill_written}
use Rattle.layout_proof.proofs.RecordLemmas.{moves, computes}
use Rattle.layout_proof.proofs.Runs.{Does, one}
use Rattle.code_proof.proofs.Puts.{Puts, put}

-- the operations that are one instruction
pub data Basic : Type 0 where
  plus : Basic
  minus : Basic
  times : Basic

abbrev pub number : Basic → ℕ
number plus = 0
number minus = 1
number times = 2

abbrev pub result : Basic → ℕ → ℕ → ℕ
result plus = sum
result minus = difference
result times = product

-- ---- a tree of one record is an instruction of its operands

module _ (G : Shape) (words : ℕ → ℕ) (c : Config) where
  to_is : (r w : ℕ) → evaluate words (move_to G r w) c ≡ evaluated (move (register r) (operand_at G w) c)
  unfolding step
  to_is r w = by (ltb w 16)
    where
      by : (b : Bool) → evaluate words (cond b (leaf (MOV r w) refl) (leaf (MOVL r STACK (stack_offset G w)) refl)) c
          ≡ evaluated (move (register r) (cond b (register w) (memory STACK (stack_offset G w))) c)
      by true = refl
      by false = refl

  from_is : (w r : ℕ) → evaluate words (move_from G w r) c ≡ evaluated (move (operand_at G w) (register r) c)
  unfolding step
  from_is w r = by (ltb w 16)
    where
      by : (b : Bool) → evaluate words (cond b (leaf (MOV w r) refl) (leaf (MOVS r STACK (stack_offset G w)) refl)) c
          ≡ evaluated (move (cond b (register w) (memory STACK (stack_offset G w))) (register r) c)
      by true = refl
      by false = refl

  immediate_is : (w value : ℕ) → evaluate words (load_immediate G w value) c ≡ evaluated (move (operand_at G w) (immediate value) c)
  unfolding step
  immediate_is w value = by (ltb w 16)
    where
      by : (b : Bool) → evaluate words (cond b (leaf (MOVI w value) refl) (leaf (MOVIM STACK (stack_offset G w) value) refl)) c
          ≡ evaluated (move (cond b (register w) (memory STACK (stack_offset G w))) (immediate value) c)
      by true = refl
      by false = refl

  register_is : (o : Basic) (r w : ℕ) → evaluate words (to_register G (number o) r w) c ≡ evaluated (calculate (result o) (register r) (operand_at G w) c)
  unfolding step
  register_is o r w = by o (ltb w 16)
    where
      by : (o : Basic) (b : Bool) → evaluate words (cond b (register_register (number o) r w) (register_spill (number o) r (stack_offset G w))) c
          ≡ evaluated (calculate (result o) (register r) (cond b (register w) (memory STACK (stack_offset G w))) c)
      by plus true = refl
      by plus false = refl
      by minus true = refl
      by minus false = refl
      by times true = refl
      by times false = refl

  spill_is : (o : Basic) (offset r : ℕ) → evaluate words (spill_register (number o) offset r) c ≡ evaluated (calculate (result o) (memory STACK offset) (register r) c)
  unfolding step
  spill_is plus offset r = refl
  spill_is minus offset r = refl
  spill_is times offset r = refl

-- ---- what it does

module _ (c : Config) (r : ℕ) (h : r < 16) where
  pub register_read : value_of c.state (register r) ≡ Some (held c r)
  register_read = ap Some (sym (held_register c.state.reg c.state.stk r h))

  register_written : (x : ℕ) → assigned c.state (register r) x ≡ Some (with_operand c.state r x)
  register_written x = rw (lt-ltb r 16 h)

module _ (words : ℕ → ℕ) {G : Shape} {N : ℕ} (c : Config) (v : Placed G N c) where
  module _ (r w : ℕ) (h : r < 16) (k : w < operands G) where
    pub to_does : Does words (move_to G r w) c (Puts r (held c w) c)
    to_does =
        one (to_is G words c r w ∙ ap evaluated (moves c (register r) (operand_at G w) (operand_read c.state v w k) (register_written c r h (held c w))))
        (put c r (held c w) _ (λ m. absurd (omega arith)))

    pub from_does : Does words (move_from G w r) c (Puts w (held c r) c)
    from_does =
        one (from_is G words c w r ∙ ap evaluated (moves c (operand_at G w) (register r) (register_read c r h) (operand_written c.state v w k (held c r))))
        (put c w (held c r) _ (λ m. in_frame w v k))

    pub register_does : (o : Basic) → Does words (to_register G (number o) r w) c (Puts r (result o (held c r) (held c w)) c)
    register_does o =
        let x : ℕ = result o (held c r) (held c w) in
        one (register_is G words c o r w ∙ ap evaluated (computes c (register r) (operand_at G w) (result o) (operand_read c.state v w k) (register_read c r h) (register_written c r h x)))
        (put c r x _ (λ m. absurd (omega arith)))

    pub spill_does : (o : Basic) → 16 ≤ w → Does words (spill_register (number o) (stack_offset G w) r) c (Puts w (result o (held c w) (held c r)) c)
    spill_does o m =
        let x : ℕ = result o (held c w) (held c r) in
        one (spill_is G words c o (stack_offset G w) r
        ∙ ap evaluated (computes c (memory STACK (stack_offset G w)) (register r) (result o) (register_read c r h) (spill_read c.state v w m k) (rw (le-ltb w 16 m) (spill_written c.state v w m k x))))
        (put c w x _ (λ m. in_frame w v k))

  pub immediate_does : (w value : ℕ) → w < operands G → Does words (load_immediate G w value) c (Puts w value c)
  immediate_does w value k =
      one (immediate_is G words c w value ∙ ap evaluated (moves c (operand_at G w) (immediate value) refl (operand_written c.state v w k value)))
      (put c w value _ (λ m. in_frame w v k))
