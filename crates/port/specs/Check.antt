-- What the exported check answers: the number, and the place of the first bad or surplus record.
use Rattle.std.specs.Prelude.{ℕ, cond, List, eqb}
use Rattle.records.specs.Checked.{checked_cause}
use Rattle.records.specs.Contexts.{checked_context, context_cause}
use Rattle.records.specs.Instructions.{checked_codes}
use Rattle.records.specs.Orders.{order_read, order_cause}
use Rattle.port_numbers.specs.Numbers.{numbers_in, unknown}

-- the checks: 1 a context, 2 a list of instruction records, 3 an order; any other number is refused
unfoldable pub check_numbers : ℕ → List ℕ → List ℕ
check_numbers kind bytes =
    cond (eqb kind 1) (numbers_in (context_cause (checked_context bytes)))
    (cond (eqb kind 2) (numbers_in (checked_cause (checked_codes 65536 bytes)))
    (cond (eqb kind 3) (numbers_in (order_cause (order_read bytes))) unknown))
