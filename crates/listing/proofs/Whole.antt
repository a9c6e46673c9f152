-- A text that is measured first, and then stored where it fits whole.
use Rattle.records.specs.declared.check.Malformed.{Malformed}
use Rattle.records.specs.Checked.{malformed}
use Rattle.std.specs.Prelude.{Err, Ok, Result}
use Prim.Native.Nat.{ℕ, ◌≤◌, ◌<◌}
use mathlib.Core.Path.{◌≡◌, refl, ap, ◌∙◌}
use mathlib.Core.List.{List, []}
use native.Mathlib.Omega.{arith}
use lib.ListN.{length}
use Rattle.std.specs.Result.{IsErrAnd}
use borrow.Author.Tests.{le-leb, lt-leb}
use Rattle.records.specs.Answers.{AnswersBy}
use Rattle.records.specs.Bytes.{stored}
use Rattle.records.proofs.Answers.{answers_by}
use Rattle.records.proofs.Storing.{stored_whole, stored_nothing}
use Rattle.listing.specs.declared.NotListed.TheVariants as not_listed
use Rattle.listing.specs.Listing.{listing, text_of, listing_answer, listing_cause, listing_refusal, printed_of}
use Rattle.text.specs.Putting.{Puts}

pub size : {m j : ℕ} {o o' bs : List ℕ} → Puts m o 0 o' j bs → j ≡ length bs
size p = let e = p.next in omega arith

-- an output that has room for the size, and one that has not
module _ {bs : List ℕ} (o : List ℕ) {m j : ℕ} {q q' : List ℕ} (measured : Puts m q 0 q' j bs) where
  pub whole : {n k : ℕ} {o' : List ℕ} → j ≤ length o → Puts n o 0 o' k bs → o' ≡ stored o 0 bs
  whole h p = let z = size measured in p.bytes ∙ stored_whole o 0 bs (omega arith)

  pub kept : length o < j → o ≡ stored o 0 bs
  kept h = let z = size measured in stored_nothing o 0 bs (omega arith)

-- a refusal handed on by `?`
pub handed_on : {A E : Type 0} (r : Result A E) {e : E} → IsErrAnd r (λ x. x ≡ e) → r ≡ Err e
handed_on (Ok x) h = absurd h
handed_on (Err d) h = ap (λ x. Err x) h

module _ (names : List (List ℕ)) (s o : List ℕ) {checked : Result ℕ Malformed} where
  pub refused : {place : ℕ} → checked ≡ Err (malformed place)
      → AnswersBy listing_cause (Err (not_listed.Malformed place)) (listing_answer names s (length o) checked) × (o ≡ stored o 0 (text_of names s checked))
  unfolding listing_answer text_of
  refused e = rw e (answers_by refl, stored_whole o 0 [] (omega arith))

  module _ {n m j : ℕ} {q q' : List ℕ} (e : checked ≡ Ok n) (measured : Puts m q 0 q' j (listing names s n)) where
    pub too_short : length o < j → AnswersBy listing_cause (Err (not_listed.Short j)) (listing_answer names s (length o) checked) × (o ≡ stored o 0 (text_of names s checked))
    unfolding listing_answer text_of
    too_short h =
        let z = size measured in
        rw (e, lt-leb (length (listing names s n)) (length o) (omega arith), ← z) (answers_by refl, kept o measured h)

    pub listed : {m' k : ℕ} {o' : List ℕ} → j ≤ length o → Puts m' o 0 o' k (listing names s n)
        → AnswersBy listing_cause (Ok j) (listing_answer names s (length o) checked) × (o' ≡ stored o 0 (text_of names s checked))
    unfolding listing_answer text_of
    listed h p =
        let z = size measured in
        rw (e, le-leb (length (listing names s n)) (length o) (omega arith), ← z) (answers_by refl, whole o measured h p)

-- what is printed
module _ (names : List (List ℕ)) (s : List ℕ) {checked : Result ℕ Malformed} {m i j : ℕ} {o o' : List ℕ} where
  pub printed_listing_lem : {n : ℕ} → checked ≡ Ok n → Puts m o i o' j (listing names s n) → Puts m o i o' j (printed_of names s checked)
  unfolding printed_of
  printed_listing_lem e p = rw e p

  pub printed_refusal : {place : ℕ} → checked ≡ Err (malformed place) → Puts m o i o' j (listing_refusal place) → Puts m o i o' j (printed_of names s checked)
  unfolding printed_of
  printed_refusal e p = rw e p
