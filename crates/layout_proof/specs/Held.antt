-- The word at an operand, what stays the same from one configuration to another, and where the stack and the blocks lie.
-- Every definition that stays shut is over the parts of a configuration, so that a change of another part computes away.
use Rattle.std.specs.Prelude.{◌≡◌, ◌≢◌, List, ℕ, ◌-◌, ◌*◌, ◌≤◌, ◌<◌}
use Rattle.layout.specs.declared.config.Shape.{Shape}
use Rattle.layout.specs.Config.{Supported, stack_depth, frame_pointer, block_words, STACK}
use Rattle.layout.specs.Frame.{stack_word, held_in}
use Rattle.machine_step.specs.Step.{Call, Config}

abbrev pub held : Config → ℕ → ℕ
held c l = held_in c.state.reg c.state.stk l

-- a word of the stack that is no spill, where the frame's operands are those below `most`
abbrev pub NoSpill : ℕ → ℕ → Type 0
NoSpill most i = (l : ℕ) → 16 ≤ l → l < most → i ≢ stack_word l

-- those operands, in the frame of a stack of so many words: its spills are 64 fewer
abbrev pub operands_in : ℕ → ℕ
operands_in depth = depth - 48

-- the same at the operands of P and at the stack's words that are no spill, the same number of stack and heap words, and the same calls
pub record Kept (P : ℕ → Type 0) (registers stack : ℕ → ℕ) (depth size : ℕ) (calls : List Call) (registers' stack' : ℕ → ℕ) (depth' size' : ℕ) (calls' : List Call) : Type 0 where
  pub depth_kept : depth' ≡ depth
  pub size_kept : size' ≡ size
  pub calls_kept : calls' ≡ calls
  pub kept : (l : ℕ) → P l → held_in registers' stack' l ≡ held_in registers stack l
  pub beside_kept : (i : ℕ) → NoSpill (operands_in depth) i → stack' i ≡ stack i

abbrev pub Keeps : (ℕ → Type 0) → Config → Config → Type 0
Keeps P c d = Kept P c.state.reg c.state.stk c.state.depth c.state.size c.calls d.state.reg d.state.stk d.state.depth d.state.size d.calls

-- STACK where setup leaves it, and a heap of so many blocks
pub record PlacedAt (G : Shape) (blocks stack_pointer depth size : ℕ) : Type 0 where
  pub shape : Supported G
  pub stack : stack_pointer ≡ frame_pointer G
  pub deep : depth ≡ stack_depth G
  pub words : size ≡ block_words G * blocks
  pub fits : blocks ≤ 1048576

abbrev pub Placed : Shape → ℕ → Config → Type 0
Placed G blocks c = PlacedAt G blocks (c.state.reg STACK) c.state.depth c.state.size
