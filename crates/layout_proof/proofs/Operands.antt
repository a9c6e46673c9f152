-- An operand as instructions name it, one word of a configuration changed, and a block's address.
use Rattle.std.specs.Prelude.{Some}
use mathlib.Core.Bool.{cond}
use Prim.Native.Nat.{ℕ}
use lib.Dec.{ltb}
use Rattle.layout.specs.declared.config.Shape.{Shape}
use Rattle.layout.specs.Config.{STACK, stack_offset}
use Rattle.layout.specs.Frame.{stack_word}
use Rattle.machine_step.specs.View.{View, put_reg, put_stk, put_mem}
use Rattle.machine_step.specs.Memory.{Operand, register, memory}
use Rattle.machine_step.specs.Step.{Config, config, moved}
use Rattle.heap.specs.Words.{address_of}

-- operand l as instructions name it
abbrev pub operand_at : Shape → ℕ → Operand
operand_at G l = cond (ltb l 16) (register l) (memory STACK (stack_offset G l))

-- one word changed, and the compare's pair as it was
abbrev pub with_register : Config → ℕ → ℕ → Config
with_register c a w = moved c (put_reg c.state a w)

abbrev pub with_spill : Config → ℕ → ℕ → Config
with_spill c l w = moved c (put_stk c.state (stack_word l) w)

abbrev pub with_heap : Config → ℕ → ℕ → Config
with_heap c i w = moved c (put_mem c.state i w)

abbrev pub with_pair : Config → ℕ → ℕ → Config
with_pair c x y = config c.state (Some (x, y)) c.calls

-- operand l of a state changed
abbrev pub with_operand : View → ℕ → ℕ → View
with_operand s l w = cond (ltb l 16) (put_reg s l w) (put_stk s (stack_word l) w)

-- block j's address
abbrev pub block_address : Shape → ℕ → ℕ
block_address G j = address_of G.fields j
