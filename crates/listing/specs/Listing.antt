-- The listing of a list of instruction records, and what the lister prints. From the scope, 'Worked numbers' (the lister) and
-- 'Causes and numbers'. The names of the codes are a parameter; those of the Rust stand in `Names`.
use Rattle.listing.specs.declared.NotListed.{NotListed}
use Rattle.records.specs.declared.check.Malformed.{Malformed}
use Rattle.std.specs.Prelude.{ℕ, zero, suc, ◌*◌, ◌-◌, cond, List, [], ◌∷◌, ◌++◌, leb, length, get_or, drop, Err, Ok, Result}
use Rattle.records.specs.Causes.{ACCEPTED, MALFORMED, ROOM}
use Rattle.records.specs.declared.code.Fields.{Fields}
use Rattle.records.specs.Instructions.{fields_in, checked_codes}
use Rattle.listing.specs.declared.NotListed.TheVariants as not_listed
use Rattle.text.specs.Text.{ascii, spaced, decimal, signed_decimal}

-- the name of a code, the first of which is 1
abbrev pub code_name : List (List ℕ) → ℕ → List ℕ
code_name names code = get_or names (code - 1) []

-- a, b, label, offset, value
unfoldable pub operands_text : Fields → List ℕ
operands_text f = spaced (decimal f.a) ++ spaced (decimal f.b) ++ spaced (decimal f.label) ++ spaced (signed_decimal f.offset) ++ spaced (signed_decimal f.value)

-- the line of a record: its place, its code's name, its operands
unfoldable pub line : List (List ℕ) → ℕ → Fields → List ℕ
line names place f = decimal place ++ spaced (code_name names f.code) ++ operands_text f ++ ascii "\n"

-- the lines of the first k records of s
unfoldable pub lines : List (List ℕ) → List ℕ → ℕ → List ℕ
lines names s zero = []
lines names s (suc k) = lines names s k ++ line names (suc k) (fields_in (drop (24 * k) s))

-- the header, and the lines of all n records of s
unfoldable pub listing : List (List ℕ) → List ℕ → ℕ → List ℕ
listing names s n = decimal n ++ ascii " records\n" ++ lines names s n

-- the lister takes at most 2,730 records
abbrev pub checked_list : List ℕ → Result ℕ Malformed
checked_list s = checked_codes 2730 s

-- the text that is written: none where the list is refused
unfoldable pub text_of : List (List ℕ) → List ℕ → Result ℕ Malformed → List ℕ
text_of names s (Ok n) = listing names s n
text_of names s (Err m) = []

-- the answer where the output has room for so many bytes
unfoldable pub listing_answer : List (List ℕ) → List ℕ → ℕ → Result ℕ Malformed → Result ℕ NotListed
listing_answer names s room (Ok n) = cond (leb (length (listing names s n)) room) (Ok (length (listing names s n))) (Err (not_listed.Short (length (listing names s n))))
listing_answer names s room (Err m) = Err (not_listed.Malformed m.place)

-- what is written for the bytes of a list of records, and what is answered
abbrev pub listed_text : List (List ℕ) → List ℕ → List ℕ
listed_text names s = text_of names s (checked_list s)

abbrev pub listed : List (List ℕ) → List ℕ → ℕ → Result ℕ NotListed
listed names s room = listing_answer names s room (checked_list s)

-- the scope's number and values for each answer: 0, with the bytes of the listing, where it is written
abbrev pub listing_cause : Result ℕ NotListed → List ℕ
listing_cause (Ok size) = ACCEPTED ∷ size ∷ []
listing_cause (Err (not_listed.Malformed place)) = MALFORMED ∷ place ∷ []
listing_cause (Err (not_listed.Short needed)) = ROOM ∷ needed ∷ []

-- numbers on one line
abbrev pub row : List ℕ → List ℕ
row [] = ascii "\n"
row (n ∷ []) = decimal n ++ ascii "\n"
row (n ∷ m ∷ ns) = decimal n ++ spaced (row (m ∷ ns))

-- the number and the place of a refusal
unfoldable pub listing_refusal : ℕ → List ℕ
listing_refusal place = row (listing_cause (Err (not_listed.Malformed place)))

unfoldable pub printed_of : List (List ℕ) → List ℕ → Result ℕ Malformed → List ℕ
printed_of names s (Ok n) = listing names s n
printed_of names s (Err m) = listing_refusal m.place

-- what the lister prints for the bytes that it reads
abbrev pub printed_listing : List (List ℕ) → List ℕ → List ℕ
printed_listing names s = printed_of names s (checked_list s)

-- a bound on the bytes that it prints: 20 digits and 9 letters in the header, and 140 bytes in each of 2,730 lines
abbrev pub longest_listing : ℕ
longest_listing = 382229
