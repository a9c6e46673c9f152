-- Addresses of the stack's words, numbered from its end, and what PUSH and POP do there.
use Prim.Native.Nat.{ℕ, suc, ◌-◌, ◌*◌, ◌/◌, ◌%◌, ◌<◌}
use mathlib.Core.Path.{◌≡◌, refl}
use native.Mathlib.Omega.{arith}
use borrow.Author.Tests.{lt-ltb, lt-leb}
use Rattle.records.specs.declared.code.Code.TheVariants.{PUSH, POP}
use Rattle.trees.specs.Tree.{leaf}
use Rattle.word.specs.Words.{sum, difference}
use Rattle.machine_step.specs.declared.memory.Place.TheVariants.{Stack}
use Rattle.machine_step.specs.View.{put_reg, put_stk}
use Rattle.machine_step.specs.Memory.{place_of}
use Rattle.machine_step.specs.Step.{Config, changed, step}
use Rattle.trees_proof.specs.Evaluation.{evaluate, done}

-- the address of the stack's word n, from its end
unfoldable pub stack_address : ℕ → ℕ
stack_address n = 1099511627768 - 8 * n

pub stack_place : (depth size n : ℕ) → n < depth → n < 1024 → place_of depth size (stack_address n) ≡ Stack n
unfolding place_of stack_address
stack_place depth size n h k =
    let e1 : (1099511627768 - 8 * n) % 8 ≡ 0 = omega arith in
    let e2 : (1099511627768 - (1099511627768 - 8 * n)) / 8 ≡ n = omega arith in
    let e3 : 1099511627768 - 8 * n < 1099511627776 = omega arith in
    simp (e1, e2, lt-leb _ _ e3, lt-ltb _ _ h)

pub lowered : (n : ℕ) → n < 1024 → difference (stack_address n) 8 ≡ stack_address (suc n)
unfolding difference stack_address
lowered n h = omega arith

pub raised : (n : ℕ) → n < 1024 → sum (stack_address (suc n)) 8 ≡ stack_address n
unfolding sum stack_address
raised n h = omega arith

-- the stack pointer is a multiple of 16 at every second word
pub aligned : (n : ℕ) → n < 1024 → n % 2 ≡ 1 → stack_address n % 16 ≡ 0
unfolding stack_address
aligned n k h = omega arith

module _ (words : ℕ → ℕ) (c : Config) (n r : ℕ) (h : suc n < c.state.depth) (k : suc n < 1024) where
  pub push_does : c.state.reg 0 ≡ stack_address n
      → evaluate words (leaf (PUSH r) refl) c ≡ done (changed c (put_stk (put_reg c.state 0 (stack_address (suc n))) (suc n) (c.state.reg r)))
  unfolding step
  push_does e = rw (e, lowered n (omega arith), stack_place c.state.depth c.state.size (suc n) h k)

  pub pop_does : c.state.reg 0 ≡ stack_address (suc n)
      → evaluate words (leaf (POP r) refl) c ≡ done (changed c (put_reg (put_reg c.state 0 (stack_address n)) r (c.state.stk (suc n))))
  unfolding step
  pop_does e = rw (e, raised n (omega arith), stack_place c.state.depth c.state.size (suc n) h k)
