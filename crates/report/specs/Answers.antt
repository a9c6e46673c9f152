-- The line of an order's answer: `3 load: refused 5, a variable of the wrong kind for the order`. A refusal's number and values are the scope's, 'Causes and numbers', by
-- the `order_answer_cause` that the order function's contract cites.
use Rattle.records.specs.declared.check.Malformed.{Malformed}
use Rattle.std.specs.Prelude.{ℕ, ◌-◌, Bool, ◌||◌, cond, List, [], ◌∷◌, ◌++◌, eqb, Err, Ok, Result}
use Rattle.records.specs.Causes.{MALFORMED, OPERAND, MISSING, KIND, COUNT, POSITION, LABELS, ROOM, CONTEXT_LENGTH, BINDING_MARK, BINDING_KIND, EDITION}
use Rattle.records.specs.declared.order.Order.{Order}
use Rattle.records.specs.declared.order.Order.TheVariants.{Put, Compute, Copy, Drop, Store, Load, Print}
use Rattle.records.specs.Orders.{order_read}
use Rattle.text.specs.Text.{ascii, decimal}
use Rattle.layout.specs.Config.{in_frame, positions}
use Rattle.order_spec.specs.Answered.{order_answer_cause, OrderAnswer}
use Rattle.report.specs.Parts.{counted}

unfoldable pub order_name : Order → List ℕ
order_name (Put value) = ascii "put"
order_name (Compute operation a b) = ascii "compute"
order_name (Copy a n) = ascii "copy"
order_name Drop = ascii "drop"
order_name (Store n tag) = ascii "store"
order_name (Load n) = ascii "load"
order_name (Print newline a) = ascii "print"

-- `order` where the record is malformed
unfoldable pub read_name : Result Order Malformed → List ℕ
read_name (Ok order) = order_name order
read_name (Err bad) = ascii "order"

-- the order's number in the list, and its name
unfoldable pub start : ℕ → List ℕ → List ℕ
start number order = decimal number ++ ascii " " ++ read_name (order_read order) ++ ascii ": "

-- the frame's last position; where there is no such frame no order is answered 8
unfoldable pub position_words : ℕ → List ℕ
position_words frame = ascii "too many variables" ++ in_frame frame (λ g. counted ", a position above " (positions g - 1) ++ ascii " needed") []

-- what to look at, for each number that an order is refused with in a frame
unfoldable pub cause_words : ℕ → ℕ → List ℕ
cause_words frame n =
    cond (eqb n CONTEXT_LENGTH) (ascii "bindings that are not whole, or more than 4096")
    (cond (eqb n BINDING_MARK) (ascii "its mark is not A7 01")
    (cond (eqb n BINDING_KIND) (ascii "its kind is neither 0 nor 1, or its zero byte is not 0")
    (cond (eqb n MALFORMED) (ascii "malformed order, or not its number of bindings")
    (cond (eqb n OPERAND) (ascii "a frame has 256 or 512 spills")
    (cond (eqb n MISSING) (ascii "a place that is not in the context, or too few variables")
    (cond (eqb n KIND) (ascii "a variable of the wrong kind for the order")
    (cond (eqb n COUNT) (ascii "a copy's count above 2147483647")
    (cond (eqb n POSITION) (position_words frame)
    (cond (eqb n LABELS) (ascii "labels above 2147483647 needed, let the counter start afresh")
    (cond (eqb n ROOM) (ascii "an output is too short")
    (cond (eqb n EDITION) (ascii "an edition is 1 or 2") [])))))))))))

-- whether a number is a binding's: of its mark, or of its kind and zero byte
abbrev pub of_binding : ℕ → Bool
of_binding n = eqb n BINDING_MARK || eqb n BINDING_KIND

-- the value beside a number: the binding's place, the record's place for 2, the bytes needed for 10; a length has none to name
unfoldable pub cause_value : ℕ → ℕ → List ℕ
cause_value n value =
    cond (eqb n CONTEXT_LENGTH) []
    (cond (of_binding n) (counted ", binding " value)
    (cond (eqb n MALFORMED) (counted " at place " value) (counted ", " value ++ ascii " bytes needed")))

-- what stands before the words: `binding 3: its mark is not A7 01`
unfoldable pub separator : ℕ → List ℕ
separator n = cond (of_binding n) (ascii ": ") (ascii ", ")

-- a refusal, by its number and values
unfoldable pub refusal : ℕ → List ℕ → List ℕ
refusal frame [] = []
refusal frame (n ∷ []) = counted "refused " n ++ (separator n ++ cause_words frame n)
refusal frame (n ∷ value ∷ values) = counted "refused " n ++ cause_value n value ++ (separator n ++ cause_words frame n)

-- so many records, and the labels that they drew
unfoldable pub acceptance : ℕ → ℕ → List ℕ
acceptance records labels = counted "accepted, records " records ++ counted ", labels " labels

-- `before` is the label counter that went in
unfoldable pub outcome : ℕ → ℕ → OrderAnswer → List ℕ
outcome frame before (Ok a) = acceptance a.records (a.counter - before)
outcome frame before (Err refused) = refusal frame (order_answer_cause (Err refused))

unfoldable pub order_line : ℕ → ℕ → List ℕ → ℕ → OrderAnswer → List ℕ
order_line frame number order before answer = start number order ++ outcome frame before answer ++ ascii "\n"
