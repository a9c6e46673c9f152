-- The temporaries of a variable, and where spills and fields stand, as callers ask for them. From the scope, 'Binding record': of equal ids `variable_temporary` takes the
-- first; `fresh_temporary` is past the last; a spill that the frame lacks, and spill 0, is 3.
use Rattle.layout.specs.declared.utils.NoTemporary.{NoTemporary}
use Rattle.layout.specs.declared.config.NoOffset.{NoOffset}
use Rattle.std.specs.Prelude.{ℕ, zero, suc, ◌+◌, ◌*◌, ◌&&◌, cond, List, [], ◌∷◌, ltb, eqb, drop, Err, Ok, Result}
use Rattle.records.specs.Causes.{ACCEPTED, OPERAND, EDITION}
use Rattle.records.specs.Contexts.{binding_in, checked_context, on_context}
use Rattle.layout.specs.declared.config.NoOffset.TheVariants.{Operand, Edition}
use Rattle.layout.specs.declared.config.Shape.{Shape}
use Rattle.layout.specs.declared.utils.TemporaryNumber.{TemporaryNumber}
use Rattle.layout.specs.declared.utils.TemporaryNumber.TheVariants.{Fst, Snd}
use Rattle.layout.specs.declared.utils.NoTemporary.TheVariants.{Missing}
use Rattle.layout.specs.declared.utils.NoTemporary.TheVariants as temporary
use Rattle.layout.specs.Config.{operands, stack_offset, fst_offset, snd_offset}
use Rattle.layout.specs.Positions.{position_answer}

abbrev pub half_number : TemporaryNumber → ℕ
half_number Fst = 0
half_number Snd = 1

-- the first of n bindings, from binding k on, that has the id; where they end if none has
unfoldable pub id_place : List ℕ → ℕ → ℕ → ℕ → ℕ
id_place s id k zero = k
id_place s id k (suc n) = cond (eqb (binding_in (drop (8 * k) s)).id id) k (id_place s id (suc k) n)

unfoldable pub fresh_temporary : Shape → TemporaryNumber → List ℕ → Result ℕ NoTemporary
fresh_temporary g number s = on_context (checked_context s) (λ n. position_answer g (2 * n + half_number number)) (λ flaw. Err (temporary.Context flaw))

unfoldable pub variable_temporary : Shape → TemporaryNumber → List ℕ → ℕ → Result ℕ NoTemporary
variable_temporary g number s id =
    on_context (checked_context s) (λ n. cond (ltb (id_place s id 0 n) n) (position_answer g (2 * id_place s id 0 n + half_number number)) (Err Missing)) (λ flaw. Err (temporary.Context flaw))

-- 15 to 17 come before 3, which another number of spills than a frame has is
abbrev pub unframed_temporary : List ℕ → Result ℕ NoTemporary
unframed_temporary s = on_context (checked_context s) (λ n. Err temporary.Frame) (λ flaw. Err (temporary.Context flaw))

-- where the spill that an operand names stands from STACK: spills from 1, as callers name them
unfoldable pub spill_offset : Shape → ℕ → Result ℕ NoOffset
spill_offset g w = cond (ltb 16 w && ltb w (operands g)) (Ok (stack_offset g w)) (Err Operand)

abbrev pub word_offset : TemporaryNumber → ℕ → ℕ
word_offset Fst i = fst_offset i
word_offset Snd i = snd_offset i

-- where the Fst or the Snd of a block's field stands in the block
unfoldable pub field_offset : Shape → TemporaryNumber → ℕ → Result ℕ NoOffset
field_offset g number i = cond (ltb i g.fields) (Ok (word_offset number i)) (Err Operand)

-- the scope's number for each answer: 0, with the offset, where there is one
abbrev pub offset_cause : Result ℕ NoOffset → List ℕ
offset_cause (Ok bytes) = ACCEPTED ∷ bytes ∷ []
offset_cause (Err Operand) = OPERAND ∷ []
offset_cause (Err Edition) = EDITION ∷ []
