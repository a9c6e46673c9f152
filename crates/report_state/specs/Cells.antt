-- The line of each variable: `0 integer 120`, `1 object, tag 5, block 3`, `2 object, tag 7, empty`. The cells are those of `variables_in`, which demand 3's claim says hold the plain
-- machine's values. A block's number is by its shape's size, from 65,536 on.
use Rattle.std.specs.Prelude.{ℕ, suc, ◌*◌, ◌-◌, ◌/◌, Bool, cond, List, [], ◌∷◌, ◌++◌, eqb, ltb, length}
use Rattle.records.specs.Contexts.{ext_at}
use Rattle.text.specs.Text.{ascii, decimal, signed_decimal}
use Rattle.layout.specs.declared.config.Shape.{Shape}
use Rattle.layout.specs.Config.{in_shape, positions, shape_on, block_bytes}
use Rattle.layout.specs.Frame.{variable_in, variables_in}
use Rattle.machine_step.specs.View.{words_of, from_end}
use Rattle.machine_step.specs.Memory.{heap_start}
use Rattle.heap.specs.Blocks.{Cell}
use Rattle.order_spec.specs.Answered.{places_in}
use Rattle.report.specs.Parts.{counted}

-- where an object's first block is
unfoldable pub block_name : Shape → ℕ → List ℕ
block_name g pointer = cond (eqb pointer 0) (ascii ", empty") (counted ", block " ((pointer - heap_start) / block_bytes g))

-- an integer and a tag are signed
unfoldable pub cell_words : Shape → Bool → Cell → List ℕ
cell_words g ext c = cond ext (ascii " integer " ++ signed_decimal c.snd) (ascii " object, tag " ++ signed_decimal c.snd ++ block_name g c.fst)

unfoldable pub cell_line : Shape → ℕ → Bool → Cell → List ℕ
cell_line g place ext c = decimal place ++ cell_words g ext c ++ ascii "\n"

-- the variables from a place on
unfoldable pub cell_lines : Shape → (ℕ → Bool) → ℕ → List Cell → List ℕ
cell_lines g ext place [] = []
cell_lines g ext place (c ∷ cs) = cell_line g place (ext place) c ++ cell_lines g ext (suc place) cs

-- variable k of a context, on the words of registers and stack
unfoldable pub variable_line : Shape → List ℕ → List ℕ → List ℕ → ℕ → List ℕ
variable_line g context registers stack k = cell_line g k (ext_at context k) (variable_in (ext_at context) (words_of registers) (from_end stack) k)

-- the first k variables
unfoldable pub first_lines : Shape → List ℕ → List ℕ → List ℕ → ℕ → List ℕ
first_lines g context registers stack k = cell_lines g (ext_at context) 0 (variables_in (ext_at context) (words_of registers) (from_end stack) 0 k)

-- all of them; none where the context is malformed, which has no places, or has more variables than there are positions for
unfoldable pub variable_lines : Shape → List ℕ → List ℕ → List ℕ → List ℕ
variable_lines g context registers stack = cond (ltb (2 * places_in context) (positions g)) (first_lines g context registers stack (places_in context)) []

-- in an edition and a frame; none where the stack is not the frame's
abbrev pub variables_on : ℕ → ℕ → List ℕ → List ℕ → List ℕ → List ℕ
variables_on edition frame context registers stack = in_shape (shape_on edition frame (length stack)) (λ g. variable_lines g context registers stack) [] []
