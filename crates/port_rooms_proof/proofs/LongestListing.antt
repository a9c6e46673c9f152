-- A list of as many records as are listed, each with the longest line, and how long its listing is.
use Rattle.std.specs.Prelude.{Err, Ok}
use Prim.Native.Nat.{ℕ, zero, suc, ◌+◌, ◌*◌, ◌-◌, ◌≤◌, ◌<◌}
use mathlib.Core.Path.{◌≡◌, refl, ap, ◌∙◌, subst}
use native.Mathlib.Nat.{zero-add, suc-add, add_comm, mul-suc}
use native.Mathlib.Omega.{arith}
use lib.ListN.{length, drop, replicate, length-append, length-replicate}
use lib.Seq.{drop_at, drop-drop}
use borrow.Author.Tests.{lt-leb}
use Rattle.records.specs.declared.code.Fields.{Fields}
use Rattle.records.specs.Codes.{fields_of, readers, code_of}
use Rattle.records.specs.Bytes.{le, number}
use Rattle.records.specs.Instructions.{fields_bytes, fields_in, used, operands_ok, fields_ok}
use Rattle.records.specs.ReadBack.{Each, WellFormedCode, code_bytes}
use Rattle.records.proofs.ReadBack.{records_read_back}
use Rattle.text.specs.Text.{ascii, spaced, digits, decimal, signed_decimal}
use Rattle.listing.specs.declared.NotListed.TheVariants.{Short}
use Rattle.listing.specs.Names.{code_names}
use Rattle.listing.specs.Listing.{code_name, operands_text, line, lines, listing, checked_list, listing_answer, listed}
use Rattle.port_rooms_proof.specs.Sizes.{room_for_text}
use Rattle.port_rooms_proof.specs.Claims.{longest_record, longest_records, ListingsFill}
use Rattle.port_rooms_proof.proofs.Digits.{place_digits, next_digits}
use Rattle.port_rooms_proof.proofs.Lines.{newline_long, of_four, listing_parts}

well_formed : WellFormedCode longest_record
unfolding fields_ok operands_ok used code_of readers
well_formed = record { label_fits = omega arith; offset_fits = omega arith; value_fits = omega arith; ok = refl }

all_well_formed : (n : ℕ) → Each WellFormedCode (replicate n longest_record)
all_well_formed zero = tt
all_well_formed (suc n) = (well_formed, all_well_formed n)

accepted : (n : ℕ) → n ≤ 2730 → checked_list (longest_records n) ≡ Ok n
accepted n h =
    let l = length-replicate n longest_record in
    records_read_back.codes_accepted (replicate n longest_record) (all_well_formed n) 2730 (omega arith) ∙ ap Ok l

record_long : length (code_bytes longest_record) ≡ 24
unfolding fields_bytes le
record_long = refl

from : (k n : ℕ) → drop (24 * k) (longest_records (k + n)) ≡ longest_records n
from zero n = ap (λ (m : ℕ). longest_records m) (zero-add n)
from (suc k) n =
    rw (suc-add k n, mul-suc, add_comm (24 * k) 24, ← drop-drop, drop_at (code_bytes longest_record) (longest_records (k + n)) 24 record_long) (from k n)

at_place : (k n : ℕ) → fields_in (drop (24 * k) (longest_records (k + suc n))) ≡ fields_of longest_record
unfolding fields_in fields_bytes number le
at_place k n = rw (from k (suc n))

name_long : length (spaced (code_name code_names (fields_of longest_record).code)) ≡ 6
unfolding code_names
name_long = refl

operands_long : length (operands_text (fields_of longest_record)) ≡ 49
unfolding operands_text signed_decimal digits
operands_long = refl

line_long : (place : ℕ) → length (line code_names place (fields_of longest_record)) ≡ length (decimal place) + 56
unfolding line
line_long place =
    let f = fields_of longest_record in
    omega (arith, of_four (decimal place) (spaced (code_name code_names f.code)) (operands_text f) (ascii "\n"), name_long, operands_long, newline_long)

module _ (n : ℕ) (h : n ≤ 2730) where
  lines_long : (k : ℕ) → k ≤ n → length (lines code_names (longest_records n) k) ≡ 56 * k + place_digits k
  unfolding lines
  lines_long zero l = refl
  lines_long (suc k) l =
      let e : k + suc (n - suc k) ≡ n = omega arith in
      let f : Fields = fields_in (drop (24 * k) (longest_records n)) in
      let p : f ≡ fields_of longest_record = subst (λ (m : ℕ). fields_in (drop (24 * k) (longest_records m)) ≡ fields_of longest_record) e (at_place k (n - suc k)) in
      let z = lines_long k (omega arith) in
      let q : length (line code_names (suc k) f) ≡ length (decimal (suc k)) + 56 = rw p (line_long (suc k)) in
      omega (arith, length-append (lines code_names (longest_records n) k) (line code_names (suc k) f), next_digits k (omega arith))

  listing_short : (m : ℕ) → length (decimal n) + 9 + (56 * n + place_digits n) ≡ m → (room : ℕ) → room < m → listed code_names (longest_records n) room ≡ Err (Short m)
  unfolding listing_answer
  listing_short m e room l =
      let t : length (listing code_names (longest_records n) n) ≡ m = omega (arith, listing_parts (longest_records n) n, lines_long n (omega arith)) in
      rw (accepted n h, t, lt-leb m room l)

pub listings_fill : ListingsFill
unfolding digits
listings_fill = listing_short 2730 (omega arith) room_for_text refl
