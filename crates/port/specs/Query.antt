-- What the exported queries answer: the number and the value that goes with it.
use Rattle.std.specs.Prelude.{ℕ, Bool, cond, List, eqb, Err}
use Rattle.layout.specs.declared.config.NoOffset.TheVariants.{Operand, Edition}
use Rattle.layout.specs.declared.utils.NoTemporary.TheVariants.{Frame}
use Rattle.layout.specs.Config.{in_frame, in_edition}
use Rattle.layout.specs.Positions.{position_answer}
use Rattle.layout.specs.Queries.{fresh_temporary, variable_temporary, unframed_temporary, spill_offset, field_offset}
use Rattle.port_numbers.specs.Numbers.{unknown}
use Rattle.port_numbers.specs.Query.{temporary_numbers, offset_numbers, half_of}

-- the queries: 1 position, 2 fresh_temporary, 3 variable_temporary, 4 stack_offset, 5 field_offset, which no frame changes; any other number is refused with 3.
-- 23 is asked for first, whatever the number
unfoldable pub query_numbers : ℕ → ℕ → ℕ → Bool → ℕ → ℕ → List ℕ → List ℕ
query_numbers edition frame query second at id context =
    in_edition edition
    (λ g.
    cond (eqb query 1) (temporary_numbers (in_frame frame (λ f. position_answer f at) (Err Frame)))
    (cond (eqb query 2) (temporary_numbers (in_frame frame (λ f. fresh_temporary f (half_of second) context) (unframed_temporary context)))
    (cond (eqb query 3) (temporary_numbers (in_frame frame (λ f. variable_temporary f (half_of second) context id) (unframed_temporary context)))
    (cond (eqb query 4) (offset_numbers (in_frame frame (λ f. spill_offset f at) (Err Operand)))
    (cond (eqb query 5) (offset_numbers (field_offset g (half_of second) at)) unknown)))))
    (offset_numbers (Err Edition))
