-- The forms of operands that name a register.
use Prim.Native.Nat.{ℕ, zero, suc, ◌≤◌, ◌<◌}
use mathlib.Core.Path.{◌≡◌, refl}
use native.Mathlib.Omega.{arith}
use Rattle.records.specs.declared.code.Fields.{Fields}
use Rattle.machine_step.specs.Memory.{register, memory}
use Rattle.machine_step.specs.Forms.{operand_of, named}

pub register_form : (n : ℕ) (f : Fields) → n < 2 → operand_of n f ≡ register (named n f)
unfolding named
register_form zero f h = refl
register_form (suc zero) f h = refl
register_form (suc (suc n)) f h = absurd (omega arith)

pub memory_form : (n : ℕ) (f : Fields) → 2 ≤ n → n < 4 → operand_of n f ≡ memory (named n f) f.offset
unfolding named
memory_form zero f l h = absurd (omega arith)
memory_form (suc zero) f l h = absurd (omega arith)
memory_form (suc (suc zero)) f l h = refl
memory_form (suc (suc (suc zero))) f l h = refl
memory_form (suc (suc (suc (suc n)))) f l h = absurd (omega arith)
