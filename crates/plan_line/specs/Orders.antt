-- The order of a line's words, judged from left to right: the first wrong, missing or surplus word decides.
-- From docs/PLANNER.md, 'The planner's text'. Word 0 is the order's name.
use Rattle.plan_line.specs.declared.wrong.Wrong.{Wrong}
use Rattle.std.specs.Prelude.{ℕ, suc, Bool, true, false, ◌||◌, cond, List, [], ◌∷◌, ltb, drop, Err, Ok, None, Some, Result, Option}
use Rattle.records.specs.declared.order.Calculation.{Calculation}
use Rattle.records.specs.declared.order.Calculation.TheVariants.{Add, Sub, Mul, Div, Rem}
use Rattle.records.specs.declared.order.Order.{Order}
use Rattle.records.specs.declared.order.Order.TheVariants.{Put, Compute, Copy, Drop, Store, Load, Print}
use Rattle.text.specs.Text.{ascii}
use Rattle.plan_line.specs.declared.wrong.Wrong.TheVariants.{NoSuchOrder, NoSuchOperation, NotTag, NotNewline, NotKind, TooManyKinds, MissingWord, SurplusWord}
use Rattle.plan_line.specs.declared.orders.Named.{Named}
use Rattle.plan_line.specs.declared.orders.Named.TheVariants.{Yes, Other, Missing}
use Rattle.plan_line.specs.declared.orders.Name.{Name}
use Rattle.plan_line.specs.declared.orders.Name.TheVariants.{PutName, ComputeName, CopyName, DropName, StoreName, LoadName, PrintName}
use Rattle.plan_line.specs.Words.{same_bytes}
use Rattle.plan_line.specs.Numbers.{place_in, integer_in}

abbrev pub Words : Type 0
Words = List (List ℕ)

abbrev pub Line : Type 0
Line = Result (Option Order) Wrong

unfoldable pub name_of : List ℕ → Option Name
name_of w =
    cond (same_bytes w (ascii "put")) (Some PutName)
    (cond (same_bytes w (ascii "compute")) (Some ComputeName)
    (cond (same_bytes w (ascii "copy")) (Some CopyName)
    (cond (same_bytes w (ascii "drop")) (Some DropName)
    (cond (same_bytes w (ascii "store")) (Some StoreName)
    (cond (same_bytes w (ascii "load")) (Some LoadName)
    (cond (same_bytes w (ascii "print")) (Some PrintName) None))))))

unfoldable pub operator_of : List ℕ → Result Calculation Wrong
operator_of w =
    cond (same_bytes w (ascii "add")) (Ok Add)
    (cond (same_bytes w (ascii "sub")) (Ok Sub)
    (cond (same_bytes w (ascii "mul")) (Ok Mul)
    (cond (same_bytes w (ascii "div")) (Ok Div)
    (cond (same_bytes w (ascii "rem")) (Ok Rem) (Err NoSuchOperation)))))

-- e, an integer, or l, linked
unfoldable pub is_kind : List ℕ → Bool
is_kind w = same_bytes w (ascii "e") || same_bytes w (ascii "l")

-- the first of some words, as a place or a count, a value or a tag, an operation, a name
unfoldable pub place_at : Words → Result ℕ Wrong
place_at [] = Err MissingWord
place_at (w ∷ ws) = place_in w

unfoldable pub integer_at : Words → Result ℕ Wrong
integer_at [] = Err MissingWord
integer_at (w ∷ ws) = integer_in w

unfoldable pub operator_at : Words → Result Calculation Wrong
operator_at [] = Err MissingWord
operator_at (w ∷ ws) = operator_of w

unfoldable pub named_first : List ℕ → Words → Named
named_first name [] = Missing
named_first name (w ∷ ws) = cond (same_bytes w name) Yes Other

-- the order, where no word is left
unfoldable pub ended : Order → Words → Line
ended o [] = Ok (Some o)
ended o (w ∷ ws) = Err SurplusWord

-- what follows a number, an operation, a name
abbrev pub on_number : Result ℕ Wrong → (ℕ → Line) → Line
on_number (Ok v) then = then v
on_number (Err wrong) then = Err wrong

abbrev pub operator : Result Calculation Wrong → (Calculation → Line) → Line
operator (Ok operation) then = then operation
operator (Err wrong) then = Err wrong

abbrev pub name : Named → Line → Line → Line → Line
name Yes same else none = same
name Other same else none = else
name Missing same else none = none

-- put V
unfoldable pub put_line : Words → Line
put_line ws = on_number (integer_at (drop 1 ws)) (λ v. ended (Put v) (drop 2 ws))

-- compute OPERATION A B
unfoldable pub second_line : Calculation → ℕ → Words → Line
second_line operation a ws = on_number (place_at (drop 3 ws)) (λ b. ended (Compute operation a b) (drop 4 ws))

unfoldable pub operands_line : Calculation → Words → Line
operands_line operation ws = on_number (place_at (drop 2 ws)) (λ a. second_line operation a ws)

unfoldable pub compute_line : Words → Line
compute_line ws = operator (operator_at (drop 1 ws)) (λ operation. operands_line operation ws)

-- copy A N
unfoldable pub times_line : ℕ → Words → Line
times_line a ws = on_number (place_at (drop 2 ws)) (λ n. ended (Copy a n) (drop 3 ws))

unfoldable pub copy_line : Words → Line
copy_line ws = on_number (place_at (drop 1 ws)) (λ a. times_line a ws)

-- store N tag V
unfoldable pub tag_line : ℕ → Words → Line
tag_line n ws = on_number (integer_at (drop 3 ws)) (λ v. ended (Store n v) (drop 4 ws))

unfoldable pub tagged_line : ℕ → Words → Line
tagged_line n ws = name (named_first (ascii "tag") (drop 2 ws)) (tag_line n ws) (Err NotTag) (Err MissingWord)

unfoldable pub store_line : Words → Line
store_line ws = on_number (place_at (drop 1 ws)) (λ n. tagged_line n ws)

-- load K ..: after n kinds, the kinds that are left
unfoldable pub load_of : ℕ → Words → Line
load_of n [] = Ok (Some (Load n))
load_of n (w ∷ ws) = Err TooManyKinds

unfoldable pub load_line : ℕ → Words → Line
load_line n [] = Ok (Some (Load n))
load_line n (w ∷ ws) = cond (ltb n 4096) (cond (is_kind w) (load_line (suc n) ws) (Err NotKind)) (Err TooManyKinds)

-- print A, or print A newline
unfoldable pub newline_line : ℕ → Words → Line
newline_line a ws = name (named_first (ascii "newline") (drop 2 ws)) (ended (Print true a) (drop 3 ws)) (Err NotNewline) (Ok (Some (Print false a)))

unfoldable pub print_line : Words → Line
print_line ws = on_number (place_at (drop 1 ws)) (λ a. newline_line a ws)

-- the order of a line with this name; rest are the words after the name
abbrev pub line_for : Option Name → Words → Words → Line
line_for (Some PutName) ws rest = put_line ws
line_for (Some ComputeName) ws rest = compute_line ws
line_for (Some CopyName) ws rest = copy_line ws
line_for (Some DropName) ws rest = ended Drop (drop 1 ws)
line_for (Some StoreName) ws rest = store_line ws
line_for (Some LoadName) ws rest = load_line 0 rest
line_for (Some PrintName) ws rest = print_line ws
line_for None ws rest = Err NoSuchOrder

unfoldable pub line_of : Words → Line
line_of [] = Ok None
line_of (w ∷ ws) = line_for (name_of w) (w ∷ ws) ws
