-- The numbers of config.rs: what a shape decides, the reserved registers, offsets in the frame and in a block.
-- From the scope, 'Instruction record': spill p is at 2048 − 8(p+1) from STACK; 'Blocks and objects': field i of a block at 16+16i and 24+16i; and 'Job 8' and 'Job 11':
-- frames of 256 or 512 spills, blocks of 3 or 7 fields.
use Rattle.layout.specs.declared.config.Unshaped.{Unshaped}
use Rattle.std.specs.Prelude.{ℕ, ◌+◌, ◌*◌, ◌-◌, ◌/◌, ◌%◌, ◌^◌, ◌≤◌, ◌≡◌, cond, eqb, ltb, Err, None, Some, Ok, Option, Result}
use Rattle.layout.specs.declared.config.Shape.{Shape}
use Rattle.layout.specs.declared.config.Unshaped.TheVariants.{NoFrame, NoEdition}

-- the first edition's blocks, and the smaller frame
abbrev pub base : Shape
base = record { fields = 3; spills = 256 }

-- no block has more fields, and no frame more spills
abbrev pub most_fields : ℕ
most_fields = 7

abbrev pub most_spills : ℕ
most_spills = 512

-- the same blocks, and the larger frame
abbrev pub larger : Shape
larger = record { fields = base.fields; spills = most_spills }

-- the second edition's blocks, and the smaller frame
abbrev pub second : Shape
second = record { fields = most_fields; spills = base.spills }

-- the second edition's blocks, and the larger frame
abbrev pub second_larger : Shape
second_larger = record { fields = second.fields; spills = larger.spills }

-- the shapes that every claim is for: an object's blocks but the last hold a value and the link, no address wraps, spill 0 is there to set register 4 aside,
-- and a frame is a whole number of 16 bytes
pub record Supported (g : Shape) : Type 0 where
  pub some : 2 ≤ g.fields
  pub few : g.fields ≤ most_fields
  pub frame : g.spills ≤ most_spills
  pub even : g.spills % 2 ≡ 0
  pub aside : 1 ≤ g.spills

-- a frame by its number of spills, 256 or 512, and an edition by its number, 1 or 2; there is none of another number
unfoldable pub frame_of : ℕ → Option Shape
frame_of frame = cond (eqb frame base.spills) (Some base) (cond (eqb frame larger.spills) (Some larger) None)

unfoldable pub edition_of : ℕ → Option Shape
edition_of edition = cond (eqb edition 1) (Some base) (cond (eqb edition 2) (Some second) None)

-- the blocks of the one in the frame of the other: where there is no such edition, the frame is not asked for
abbrev pub combined : Option Shape → Option Shape → Result Shape Unshaped
combined None frame = Err NoEdition
combined (Some b) None = Err NoFrame
combined (Some b) (Some f) = Ok (record { fields = b.fields; spills = f.spills })

-- the shape of an edition and a frame by their numbers
unfoldable pub shape_of : ℕ → ℕ → Result Shape Unshaped
shape_of edition frame = combined (edition_of edition) (frame_of frame)

-- what is answered in the shape that a number stands for, and what where it stands for none
abbrev pub in_choice : {A : Type 0} → Option Shape → (Shape → A) → A → A
in_choice (Some g) known other = known g
in_choice None known other = other

-- what depends on the frame alone, and what on the edition alone
abbrev pub in_frame : {A : Type 0} → ℕ → (Shape → A) → A → A
in_frame frame known other = in_choice (frame_of frame) known other

abbrev pub in_edition : {A : Type 0} → ℕ → (Shape → A) → A → A
in_edition edition known other = in_choice (edition_of edition) known other

-- what is answered in a shape, what where there is no such frame, and what where there is no such edition
abbrev pub in_shape : {A : Type 0} → Result Shape Unshaped → (Shape → A) → A → A → A
in_shape (Ok g) known unframed unknown = known g
in_shape (Err NoFrame) known unframed unknown = unframed
in_shape (Err NoEdition) known unframed unknown = unknown

abbrev pub STACK : ℕ
STACK = 0

abbrev pub TEMP : ℕ
TEMP = 1

abbrev pub HEAP : ℕ
HEAP = 2

abbrev pub FREE : ℕ
FREE = 3

abbrev pub RETURN1 : ℕ
RETURN1 = 4

abbrev pub RETURN2 : ℕ
RETURN2 = 5

-- an operand is a word: register r is r, spill p is 16 + p
abbrev pub spill : ℕ → ℕ
spill p = 16 + p

-- the register that has an operand's word once that is in one: its own, or TEMP for a spill
abbrev pub register_for : ℕ → ℕ
register_for w = cond (ltb w 16) w TEMP

-- the operands of a frame are those below this
abbrev pub operands : Shape → ℕ
operands g = g.spills + 16

-- how many positions there are: 12 registers, and the spills from 1
abbrev pub positions : Shape → ℕ
positions g = g.spills + 11

-- how many variables have both their positions: 133, and 261 in the larger frame
abbrev pub most_variables : Shape → ℕ
most_variables g = positions g / 2

-- the spill that holds register 4 while a load borrows it
abbrev pub SPILLTEMP : ℕ
SPILLTEMP = spill 0

-- where the spill that an operand names stands, from STACK
unfoldable pub stack_offset : Shape → ℕ → ℕ
stack_offset g w = 8 * g.spills - 8 * (w - 16 + 1)

-- how many words the machine's stack has: the frame, seven words above it (the one that STACK enters at, and six saved registers), and below it room for what prints push
abbrev pub stack_depth : Shape → ℕ
stack_depth g = g.spills + 64

-- a frame where a stack of so many words goes with it, and a shape
unfoldable pub frame_on : ℕ → ℕ → Option Shape
frame_on frame words = in_frame frame (λ g. cond (eqb words (stack_depth g)) (Some g) None) None

unfoldable pub shape_on : ℕ → ℕ → ℕ → Result Shape Unshaped
shape_on edition frame words = combined (edition_of edition) (frame_on frame words)

-- where STACK is once six registers and the frame are on the stack, which begins at 2 ^ 40 − 8
abbrev pub frame_pointer : Shape → ℕ
frame_pointer g = 2 ^ 40 - 56 - 8 * g.spills

-- where field i's two words stand in a block
abbrev pub fst_offset : ℕ → ℕ
fst_offset i = 16 + 16 * i

abbrev pub snd_offset : ℕ → ℕ
snd_offset i = 24 + 16 * i

-- how many bytes a block has, and how many words
abbrev pub block_bytes : Shape → ℕ
block_bytes g = fst_offset g.fields

abbrev pub block_words : Shape → ℕ
block_words g = 2 + 2 * g.fields

-- the word of a block that holds the link: the last field's first
abbrev pub link_word : Shape → ℕ
link_word g = 2 + 2 * (g.fields - 1)

-- minus one as 64 bits
abbrev pub MINUSONE : ℕ
MINUSONE = 18446744073709551615
