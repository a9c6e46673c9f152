-- How long the line of a record is at most, by the fields that its code uses, and a listing.
use Rattle.records.specs.declared.check.Malformed.{Malformed}
use Rattle.std.specs.Prelude.{Err, Ok, Result}
use Prim.Native.Nat.{ℕ, zero, suc, ◌+◌, ◌*◌, ◌-◌, ◌^◌, ◌≤◌, ◌<◌}
use mathlib.Core.Path.{◌≡◌, refl, subst}
use mathlib.Core.Logic.{◌≢◌}
use mathlib.Core.Bool.{Bool, true, false, ◌&&◌}
use mathlib.Core.List.{List, ◌++◌, map}
use native.Mathlib.Omega.{arith}
use lib.Dec.{T, leb, leb→le, eqb}
use lib.ListN.{length, drop, length-append}
use borrow.Author.Tests.{ltb-true, eqb-true, le-leb}
use Rattle.records.specs.declared.code.Fields.{Fields}
use Rattle.records.specs.Codes.{readers, code_of}
use Rattle.records.specs.Instructions.{fields_in, used, register_ok, label_ok, word_ok, operands_ok, fields_ok}
use Rattle.records.specs.ReadBack.{Bytes}
use Rattle.records.proofs.Conditions.{and_right, both}
use Rattle.records.proofs.CodesRead.{ok_code, starts_ok, starts_whole}
use Rattle.records.proofs.Digits.{number_below}
use Rattle.records.proofs.Each.{each_drop}
use Rattle.records.proofs.Table.{at}
use Rattle.text.specs.Text.{ascii, spaced, digits, decimal, signed_decimal}
use Rattle.listing.specs.declared.NotListed.TheVariants.{Short}
use Rattle.listing.specs.Names.{code_names}
use Rattle.listing.specs.Listing.{code_name, operands_text, line, lines, listing, checked_list, text_of, listed_text, listing_answer, listed}
use Rattle.listing.proofs.Accepted.{record_passes, few_records}
use Rattle.port_rooms_proof.specs.Sizes.{room_for_text}
use Rattle.port_rooms_proof.proofs.Digits.{digits_most, place_digits, next_digits, signed_most}

-- a field that is not used is one digit, 0
register_long : (u r : ℕ) (uses : Bool) → eqb u 1 ≡ uses → register_ok uses r ≡ true → length (decimal r) ≤ 1 + u
unfolding digits
register_long u r true e h = omega (arith, digits_most 1 20 r (omega (arith, ltb-true r 16 h)), eqb-true u 1 e)
register_long u r false e h = rw (eqb-true r 0 h) (omega arith)

label_long : (u l : ℕ) (uses : Bool) → eqb u 1 ≡ uses → l < 256 ^ 4 → label_ok uses l ≡ true → length (decimal l) ≤ 1 + 9 * u
unfolding digits
label_long u l true e h o = omega (arith, digits_most 9 20 l (omega arith), eqb-true u 1 e)
label_long u l false e h o = rw (eqb-true l 0 o) (omega arith)

word_long : (u w : ℕ) (uses : Bool) → eqb u 1 ≡ uses → word_ok uses w ≡ true → length (signed_decimal w) ≤ 1 + 19 * u
unfolding signed_decimal digits
word_long u w true e h = omega (arith, signed_most w, eqb-true u 1 e)
word_long u w false e h = rw (eqb-true w 0 h) (omega arith)

-- the bytes of the fields that are used, past their first digits
abbrev used_bytes : Fields → ℕ
used_bytes u = u.a + u.b + 9 * u.label + 19 * u.offset + 19 * u.value

spaced_long : (bs : List ℕ) → length (spaced bs) ≡ 1 + length bs
spaced_long bs = omega arith

five_spaced : (s t u v w : List ℕ)
    → length (spaced s ++ spaced t ++ spaced u ++ spaced v ++ spaced w) ≡ 5 + length s + length t + length u + length v + length w
five_spaced s t u v w =
    simp length-append (omega (arith, spaced_long s, spaced_long t, spaced_long u, spaced_long v, spaced_long w))

pub newline_long : length (ascii "\n") ≡ 1
newline_long = refl

pub of_four : (s t u v : List ℕ) → length (s ++ t ++ u ++ v) ≡ length s + length t + length u + length v
of_four s t u v = simp length-append

operands_long : (u f : Fields) → f.label < 256 ^ 4 → operands_ok u f ≡ true → length (operands_text f) ≤ 10 + used_bytes u
unfolding operands_ok operands_text
operands_long u f l e =
    let p₄ = both _ (word_ok (eqb u.value 1) f.value) e in
    let p₃ = both _ (word_ok (eqb u.offset 1) f.offset) p₄.0 in
    let p₂ = both _ (label_ok (eqb u.label 1) f.label) p₃.0 in
    let p₁ = both (register_ok (eqb u.a 1) f.a) (register_ok (eqb u.b 1) f.b) p₂.0 in
    let a = register_long u.a f.a (eqb u.a 1) refl p₁.0 in
    let b = register_long u.b f.b (eqb u.b 1) refl p₁.1 in
    let c = label_long u.label f.label (eqb u.label 1) refl l p₂.1 in
    let o = word_long u.offset f.offset (eqb u.offset 1) refl p₃.1 in
    let v = word_long u.value f.value (eqb u.value 1) refl p₄.1 in
    omega (arith, five_spaced (decimal f.a) (decimal f.b) (decimal f.label) (signed_decimal f.offset) (signed_decimal f.value))

-- the name and the fields that are used, of each code: one computed test
short : ℕ → ℕ → Bool
short k n = leb (length (code_name code_names (k + 1)) + used_bytes (used (k + 1))) 44

name_and_used : (code : ℕ) → 1 ≤ code → code ≤ 44 → length (code_name code_names code) + used_bytes (used code) ≤ 44
unfolding short code_names used code_of readers
name_and_used code l h =
    let e : code - 1 + 1 ≡ code = omega arith in
    let t : T (leb (length (code_name code_names (code - 1 + 1)) + used_bytes (used (code - 1 + 1))) 44) = at short (map length code_names) tt (code - 1) (omega arith) in
    leb→le (length (code_name code_names code) + used_bytes (used code)) 44
    (subst (λ (c : ℕ). T (leb (length (code_name code_names c) + used_bytes (used c)) 44)) e t)

line_long : (place : ℕ) (f : Fields) → f.label < 256 ^ 4 → fields_ok f ≡ true → length (line code_names place f) ≤ length (decimal place) + 56
unfolding line fields_ok
line_long place f l e =
    let c = ok_code f e in
    let n = name_and_used f.code c.0 c.1 in
    let o = operands_long (used f.code) f l (and_right (leb 1 f.code && leb f.code 44) (operands_ok (used f.code) f) e) in
    omega (arith, of_four (decimal place) (spaced (code_name code_names f.code)) (operands_text f) (ascii "\n"), spaced_long (code_name code_names f.code), newline_long)

-- the header and the lines
pub listing_parts : (s : List ℕ) (n : ℕ) → length (listing code_names s n) ≡ length (decimal n) + 9 + length (lines code_names s n)
unfolding listing
listing_parts s n = omega (arith, length-append (decimal n ++ ascii " records\n") (lines code_names s n), length-append (decimal n) (ascii " records\n"), nine)
  where
    nine : length (ascii " records\n") ≡ 9
    nine = refl

module _ (s : List ℕ) (bytes : Bytes s) (n : ℕ) (accepted : checked_list s ≡ Ok n) where
  label_below : (k : ℕ) → k < n → (fields_in (drop (24 * k) s)).label < 256 ^ 4
  unfolding fields_in
  label_below k h =
      let w = starts_whole (drop (24 * k) s) (record_passes s n accepted k h).1 in
      number_below (drop (24 * k) s) (each_drop (λ b. b < 256) (24 * k) s bytes) 4 4 (omega arith)

  lines_long : (k : ℕ) → k ≤ n → length (lines code_names s k) ≤ 56 * k + place_digits k
  unfolding lines
  lines_long zero h = omega arith
  lines_long (suc k) h =
      let f = fields_in (drop (24 * k) s) in
      let z = lines_long k (omega arith) in
      let l = line_long (suc k) f (label_below k h) (starts_ok (drop (24 * k) s) (record_passes s n accepted k h).1) in
      let d = next_digits k (omega (arith, few_records s n accepted)) in
      omega (arith, length-append (lines code_names s k) (line code_names (suc k) f))

  listing_long : length (listing code_names s n) ≤ room_for_text
  listing_long =
      let m = few_records s n accepted in
      let z = lines_long n (omega arith) in
      let d = digits_most 3 20 n (omega arith) in
      omega (arith, listing_parts s n)

module _ (s : List ℕ) (bytes : Bytes s) where
  pub text_fits : length (listed_text code_names s) ≤ room_for_text
  unfolding text_of
  text_fits = by (checked_list s) refl
    where
      by : (c : Result ℕ Malformed) → checked_list s ≡ c → length (text_of code_names s c) ≤ room_for_text
      by (Ok n) e = listing_long s bytes n e
      by (Err bad) e = omega arith

  pub no_room_wanted : (room : ℕ) → room_for_text ≤ room → (needed : ℕ) → listed code_names s room ≢ Err (Short needed)
  unfolding listing_answer
  no_room_wanted room h needed = by (checked_list s) refl
    where
      by : (c : Result ℕ Malformed) → checked_list s ≡ c → listing_answer code_names s room c ≢ Err (Short needed)
      by (Ok n) e r =
          let t : Ok (length (listing code_names s n)) ≡ Err (Short needed) = rw (le-leb (length (listing code_names s n)) room (omega (arith, listing_long s bytes n e))) at r in
          let z : ◌≡◌ {A = ℕ} 0 1 = cc in
          omega arith
      by (Err bad) e r = let z : ◌≡◌ {A = ℕ} 0 1 = cc in omega arith
