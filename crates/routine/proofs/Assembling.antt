-- Head, body and cleanup written one after the other are the routine, whose bytes are those of its records; and the answer.
use Prim.Native.Nat.{ℕ, zero, suc, ◌+◌, ◌*◌, ◌≤◌}
use mathlib.Core.Path.{◌≡◌, refl, sym, ap, ◌∙◌}
use mathlib.Core.Bool.{false}
use Rattle.std.specs.Prelude.{Ok, Err}
use Rattle.std.specs.Result.{IsErrAnd}
use mathlib.Core.List.{List, [], ◌∷◌, ◌++◌, append_assoc}
use native.Mathlib.Omega.{arith}
use lib.ListN.{length, take, length-append}
use lib.Seq.{sets, length-sets, take-length}
use borrow.Author.Tests.{le-ltb}
use Rattle.records.specs.declared.code.Code.{Code}
use Rattle.records.specs.ReadBack.{joined, items, code_bytes, code_in}
use Rattle.records.proofs.CodesBack.{code_laws}
use Rattle.records.proofs.Joined.{joined_length}
use Rattle.records.proofs.ReadBack.{records_read_back}
use Rattle.records.proofs.Storing.{sets_then}
use Rattle.records.specs.declared.check.Malformed.{Malformed}
use Rattle.emit.specs.declared.answer.Written.{Written}
use Rattle.emit.specs.declared.answer.Refusal.{Refusal}
use Rattle.emit.specs.declared.answer.Refusal.TheVariants.{Body}
use Rattle.emit.specs.declared.cursor.Cursor.{Cursor}
use Rattle.emit.specs.Answers.{cause_of, granted, accepted, Answer}
use Rattle.emit.specs.Emitted.{fields_list, Emitted}
use Rattle.emit.proofs.Laws.{length_fields}
use Rattle.emit.proofs.Wrote.{written_whole, granted_if}
use Rattle.layout.specs.declared.config.Shape.{Shape}
use Rattle.routine.specs.Routine.{move_arguments, head, cleanup, routine_bytes, accepting, Assembles}
use Rattle.routine.specs.Records.{RoutineIsRecords}

arguments_length : (n : ℕ) → length (move_arguments n) ≡ n
arguments_length zero = refl
arguments_length (suc n) = ap suc (arguments_length n)

joined_append : (xs ys : List Code) → joined code_bytes (xs ++ ys) ≡ joined code_bytes xs ++ joined code_bytes ys
joined_append [] ys = refl
joined_append (x ∷ xs) ys = rw (joined_append xs ys, append_assoc)

pub routine_records : RoutineIsRecords
unfolding routine_bytes
routine_records g n k body bytes e =
    let codes : List Code = items 24 code_in k body in
    rw (joined_append (head g n) (codes ++ cleanup g), joined_append codes (cleanup g), records_read_back.codes_written 65506 k body bytes e)

module _ (g : Shape) where
  pub head_length : (n : ℕ) → length (head g n) ≡ 16 + n
  head_length n = omega (arith, arguments_length n)

  head_bytes : (n : ℕ) → length (joined code_bytes (head g n)) ≡ 24 * (16 + n)
  head_bytes n = joined_length code_laws (head g n) ∙ ap (λ (k : ℕ). 24 * k) (head_length n)

  cleanup_bytes : length (joined code_bytes (cleanup g)) ≡ 24 * 9
  cleanup_bytes = joined_length code_laws (cleanup g)

  pub bytes_length : (n : ℕ) (body : List ℕ) → length (routine_bytes g n body) ≡ 24 * (25 + n) + length body
  unfolding routine_bytes
  bytes_length n body =
      omega (arith, length-append (joined code_bytes (head g n)) (body ++ joined code_bytes (cleanup g)), length-append body (joined code_bytes (cleanup g)), head_bytes n, cleanup_bytes)

  -- where the body starts
  pub body_place : {o o₁ : List ℕ} {p q : Cursor} (n : ℕ) → Emitted o p o₁ q (fields_list (head g n)) 0 → p.at ≡ 0 → q.at ≡ 24 * (16 + n)
  body_place n d z = omega (arith, d.place, length_fields (head g n), head_length n)

  pub assembled : {o o₁ o₂ o₃ : List ℕ} {p q e z : Cursor} (n : ℕ) (body : List ℕ)
      → 24 * (25 + n) + length body ≤ length o
      → Emitted o p o₁ q (fields_list (head g n)) 0 → p.at ≡ 0
      → o₂ ≡ sets o₁ q.at (take (length body) body)
      → Emitted o₂ e o₃ z (fields_list (cleanup g)) 0 → e.at ≡ q.at + length body
      → o₃ ≡ sets o 0 (routine_bytes g n body)
  unfolding routine_bytes
  assembled {o} {o₁} {o₂} {o₃} {p} {q} {e} n body h d s b c t =
      let A : List ℕ = joined code_bytes (head g n) in
      let C : List ℕ = joined code_bytes (cleanup g) in
      let k = body_place n d s in
      let j = head_bytes n in
      let first : o₁ ≡ sets o 0 A = d.bytes ∙ rw s (written_whole (head g n) o 0 (omega (arith, head_length n))) in
      let second : o₂ ≡ sets (sets o 0 A) q.at body = rw (← first) (rw (take-length body) at b) in
      let long : length o₂ ≡ length o = rw second (length-sets (sets o 0 A) q.at body ∙ length-sets o 0 A) in
      c.bytes
      ∙ written_whole (cleanup g) o₂ e.at (omega arith)
      ∙ rw second
      (sets_then body C (sets o 0 A) q.at e.at (sym t)
      ∙ sets_then A (body ++ C) o 0 q.at (omega arith))

module _ (g : Shape) {o : List ℕ} {r expected : Answer} {w : Written} (n : ℕ) (body : List ℕ) (e : r ≡ expected) (f : r ≡ Ok w) where
  pub all_assembled : {o' : List ℕ} → o' ≡ sets o 0 (routine_bytes g n body) → Assembles o o' (Ok w) expected (routine_bytes g n body)
  all_assembled h =
      let k : ◌≡◌ {A = Answer} (Ok w) expected = sym f ∙ e in
      record { answer = k; cause = ap cause_of k; bytes = rw (← k) h }

module _ (g : Shape) (o : List ℕ) (n : ℕ) (body : List ℕ) {r : Answer} (e : r ≡ granted 0 (length o) (24 * (25 + n) + length body) 0) where
  pub expected_answer : n ≤ 5 → r ≡ accepting g (length o) n body
  expected_answer h = rw (le-ltb 5 n h, bytes_length g n body) e

  pub room_enough_lem : {w : Written} → r ≡ Ok w → 24 * (25 + n) + length body ≤ length o
  room_enough_lem f = (granted_if 0 (length o) (24 * (25 + n) + length body) 0 (ap (λ x. accepted x) (sym e ∙ f))).1

-- a refusal leaves the output
pub refused : {o routine : List ℕ} {r expected : Answer} → r ≡ expected → accepted r ≡ false → Assembles o o r expected routine
refused e f = record { answer = e; cause = ap cause_of e; bytes = rw (← e, f) }

-- also one handed on by `?`, and one of the body
pub handed_on : {o routine : List ℕ} {r z expected : Answer} {x : Refusal} → r ≡ expected → r ≡ Err x → IsErrAnd z (λ y. y ≡ x) → Assembles o o z expected routine
handed_on {z = Ok w} e f h = absurd h
handed_on {z = Err y} {expected} e f h =
    let k : ◌≡◌ {A = Answer} (Err y) expected = ap (λ v. Err v) h ∙ sym f ∙ e in
    refused k refl

pub body_refused : {o routine : List ℕ} {m : Malformed} (z : Answer) → IsErrAnd z (λ y. y ≡ Body m.place) → Assembles o o z (Err (Body m.place)) routine
body_refused z h = handed_on refl refl h
