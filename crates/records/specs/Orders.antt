-- Order records: what each order's record holds, its 24 bytes, and which are well formed. From the scope, 'Order record'.
use Rattle.records.specs.declared.check.Malformed.{Malformed}
use Rattle.records.specs.Checked.{malformed}
use Rattle.std.specs.Prelude.{ℕ, ◌-◌, Bool, true, false, ◌&&◌, cond, List, [], ◌∷◌, ◌++◌, leb, ltb, eqb, length, get_or, None, Some, Err, Ok, Option, Result}
use Rattle.records.specs.Causes.{ACCEPTED, MALFORMED}
use Rattle.records.specs.declared.order.Calculation.{Calculation}
use Rattle.records.specs.declared.order.Calculation.TheVariants.{Add, Sub, Mul, Div, Rem}
use Rattle.records.specs.declared.order.Order.{Order}
use Rattle.records.specs.declared.order.Order.TheVariants.{Put, Compute, Copy, Drop, Store, Load, Print}
use Rattle.records.specs.declared.order.OrderFields.{OrderFields}
use Rattle.records.specs.Bytes.{le, number}
use Rattle.records.specs.Instructions.{word_ok, most_if}

-- an order's fields: code, flag, a, b, n, value
abbrev pub order_fields : ℕ → ℕ → ℕ → ℕ → ℕ → ℕ → OrderFields
order_fields code flag a b n value = record { code = code; flag = flag; a = a; b = b; n = n; value = value }

-- compute's flag
abbrev pub flag_of : Calculation → ℕ
flag_of Add = 0
flag_of Sub = 1
flag_of Mul = 2
flag_of Div = 3
flag_of Rem = 4

abbrev pub operation_of : ℕ → Calculation
operation_of f = cond (eqb f 0) Add (cond (eqb f 1) Sub (cond (eqb f 2) Mul (cond (eqb f 3) Div Rem)))

-- print's flag: 1 adds a newline
abbrev pub newline_flag : Bool → ℕ
newline_flag true = 1
newline_flag false = 0

-- what each order's record holds; an unused field is zero
abbrev pub order_fields_of : Order → OrderFields
order_fields_of (Put value) = order_fields 1 0 0 0 0 value
order_fields_of (Compute operation a b) = order_fields 2 (flag_of operation) a b 0 0
order_fields_of (Copy a n) = order_fields 3 0 a 0 n 0
order_fields_of Drop = order_fields 4 0 0 0 0 0
order_fields_of (Store n tag) = order_fields 5 0 0 0 n tag
order_fields_of (Load n) = order_fields 6 0 0 0 n 0
order_fields_of (Print newline a) = order_fields 7 (newline_flag newline) a 0 0 0

-- the order of each code, from its record's fields
unfoldable pub order_readers : List (OrderFields → Order)
order_readers =
    (λ (f : OrderFields). Put f.value)
    ∷ (λ (f : OrderFields). Compute (operation_of f.flag) f.a f.b)
    ∷ (λ (f : OrderFields). Copy f.a f.n)
    ∷ (λ (f : OrderFields). Drop)
    ∷ (λ (f : OrderFields). Store f.n f.value)
    ∷ (λ (f : OrderFields). Load f.n)
    ∷ (λ (f : OrderFields). Print (eqb f.flag 1) f.a)
    ∷ []

-- the order that a record's fields stand for, where the code is 1 to 7
unfoldable pub order_of : OrderFields → Order
order_of f = get_or order_readers (f.code - 1) (λ (g : OrderFields). Drop) f

-- how many flags each code has, from 0: five operations, and print with and without a newline
abbrev pub flags : List ℕ
flags = 1 ∷ 5 ∷ 1 ∷ 1 ∷ 1 ∷ 1 ∷ 2 ∷ []

-- which fields a code from 1 to 7 uses: 1 in each that does, as a record of that code made of ones shows it
unfoldable pub used_by_order : ℕ → OrderFields
used_by_order code = order_fields_of (order_of (order_fields code 1 1 1 1 1))

-- the largest value of each field of an order with a code from 1 to 7: its last flag, and all bits set in the others that it uses
unfoldable pub largest_in_order : ℕ → OrderFields
largest_in_order code =
    let u = used_by_order code in
    order_fields code (get_or flags (code - 1) 0 - 1) (most_if u.a 4294967295) (most_if u.b 4294967295) (most_if u.n 4294967295)
    (most_if u.value 18446744073709551615)

-- each field but the flag as its use asks, where u has a 1 in those that are used
unfoldable pub order_operands_ok : OrderFields → OrderFields → Bool
order_operands_ok u f =
    word_ok (eqb u.a 1) f.a
    && word_ok (eqb u.b 1) f.b
    && word_ok (eqb u.n 1) f.n
    && word_ok (eqb u.value 1) f.value

unfoldable pub order_ok : OrderFields → Bool
order_ok f =
    leb 1 f.code
    && leb f.code 7
    && ltb f.flag (get_or flags (f.code - 1) 0)
    && order_operands_ok (used_by_order f.code) f

-- the 24 bytes of an order
unfoldable pub order_bytes : OrderFields → List ℕ
order_bytes f = 0xA8 ∷ f.code ∷ f.flag ∷ 0 ∷ (le 4 f.a ++ (le 4 f.b ++ (le 4 f.n ++ le 8 f.value)))

-- the fields in the 24 bytes that start a list
unfoldable pub order_in : List ℕ → OrderFields
order_in s = order_fields (get_or s 1 0) (get_or s 2 0) (number 4 s 4) (number 4 s 8) (number 4 s 12) (number 8 s 16)

-- whether a list starts with a whole, well-formed order
unfoldable pub order_starts : List ℕ → Bool
order_starts s = leb 24 (length s) && eqb (get_or s 0 0) 0xA8 && eqb (get_or s 3 0) 0 && order_ok (order_in s)

-- the order that starts a list, where a whole, well-formed one does
unfoldable pub order_start : List ℕ → Option Order
order_start s = cond (order_starts s) (Some (order_of (order_in s))) None

-- an order goes in alone: a bad or part record is at place 1, a surplus one at place 2
unfoldable pub order_read : List ℕ → Result Order Malformed
order_read s =
    cond (order_starts s) (cond (eqb (length s) 24) (Ok (order_of (order_in s))) (Err (malformed 2))) (Err (malformed 1))

-- the scope's number and values for each answer: 0 where the order is whole
abbrev pub order_cause : Result Order Malformed → List ℕ
order_cause (Ok order) = ACCEPTED ∷ []
order_cause (Err m) = MALFORMED ∷ m.place ∷ []

-- an order's 24 bytes
abbrev pub record_of : Order → List ℕ
record_of o = order_bytes (order_fields_of o)

-- how many bindings follow an order: a load's own
abbrev pub wanted : Order → ℕ
wanted (Put value) = 0
wanted (Compute operation a b) = 0
wanted (Copy a n) = 0
wanted Drop = 0
wanted (Store n tag) = 0
wanted (Load n) = n
wanted (Print newline a) = 0
