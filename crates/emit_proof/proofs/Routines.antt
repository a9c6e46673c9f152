-- A routine's records are read back: those before the body and after it are well formed, and so are those that are read from an accepted body.
use Rattle.records.specs.declared.check.Malformed.{Malformed}
use Rattle.std.specs.Prelude.{Err, Ok, Result}
use Prim.Native.Nat.{ℕ, zero, suc, ◌^◌, ◌≤◌, ◌<◌}
use mathlib.Core.Path.{◌≡◌, refl, ap}
use mathlib.Core.Bool.{Bool, true, ◌&&◌}
use mathlib.Core.List.{List, [], ◌∷◌, ◌++◌}
use native.Mathlib.Omega.{arith}
use lib.Dec.{ltb}
use lib.ListN.{length, length-append}
use borrow.Author.Tests.{ltb-true, ltb-false}
use Rattle.records.specs.declared.code.Code.{Code}
use Rattle.records.specs.declared.code.Code.TheVariants.{ADDI, SUBI, MOV, PUSH, POP, RET}
use Rattle.records.specs.Codes.{fields_of, readers, code_of}
use Rattle.records.specs.Instructions.{used, operands_ok, fields_ok, checked_codes}
use Rattle.records.specs.ReadBack.{Each, Bytes, WellFormedCode, items, code_in}
use Rattle.records.proofs.CodesFormed.{codes_formed}
use Rattle.records.proofs.Conditions.{never, both, passed}
use Rattle.records.proofs.Each.{each_append}
use Rattle.records.specs.Checked.{on_checked}
use Rattle.emit.specs.declared.answer.Refusal.TheVariants.{Body, Arguments}
use Rattle.emit.specs.Answers.{accepted, Answer}
use Rattle.layout.specs.declared.config.Shape.{Shape}
use Rattle.layout.specs.Config.{Supported, STACK, HEAP, FREE, block_bytes}
use Rattle.routine.specs.Routine.{argument, preamble, move_arguments, spill_space, setup, head, cleanup, routine_answer}
use Rattle.routine.proofs.Assembling.{head_length, routine_records}
use Rattle.order_formed_proof.proofs.Codes.{drawn, addi, subi, mov, lab}
use Rattle.order_formed_proof.proofs.Choices.{stack, heap, free}
use Rattle.emit_proof.specs.Claims.{Readable, RoutineReads}
use Rattle.emit_proof.proofs.Lists.{readable}

-- well-formedness as a test, for records without a variable in them
abbrev formed : List Code → Bool
formed [] = true
formed (c ∷ cs) = ((ltb (fields_of c).label (2 ^ 32) && ltb (fields_of c).offset (2 ^ 64)) && (ltb (fields_of c).value (2 ^ 64) && fields_ok (fields_of c))) && formed cs

each_formed : (cs : List Code) → formed cs ≡ true → Each WellFormedCode cs
each_formed [] e = tt
each_formed (c ∷ cs) e =
    let p = both _ (formed cs) e in
    let q = both (ltb (fields_of c).label (2 ^ 32) && ltb (fields_of c).offset (2 ^ 64)) (ltb (fields_of c).value (2 ^ 64) && fields_ok (fields_of c)) p.0 in
    let l = both (ltb (fields_of c).label (2 ^ 32)) (ltb (fields_of c).offset (2 ^ 64)) q.0 in
    let v = both (ltb (fields_of c).value (2 ^ 64)) (fields_ok (fields_of c)) q.1 in
    (record { label_fits = ltb-true _ _ l.0; offset_fits = ltb-true _ _ l.1; value_fits = ltb-true _ _ v.0; ok = v.1 }, each_formed cs p.1)

arguments_formed : (n : ℕ) → n ≤ 5 → Each WellFormedCode (move_arguments n)
unfolding fields_ok operands_ok used code_of readers
arguments_formed zero h = tt
arguments_formed (suc zero) h = each_formed (move_arguments 1) refl
arguments_formed (suc (suc zero)) h = each_formed (move_arguments 2) refl
arguments_formed (suc (suc (suc zero))) h = each_formed (move_arguments 3) refl
arguments_formed (suc (suc (suc (suc zero)))) h = each_formed (move_arguments 4) refl
arguments_formed (suc (suc (suc (suc (suc zero))))) h = each_formed (move_arguments 5) refl
arguments_formed (suc (suc (suc (suc (suc (suc n)))))) h = absurd (omega arith)

-- the records at the routine's two ends that no shape changes
abbrev opening : List Code
opening = preamble ++ (PUSH 2 ∷ PUSH 3 ∷ PUSH 12 ∷ PUSH 13 ∷ PUSH 14 ∷ PUSH 15 ∷ [])

abbrev closing : List Code
closing = POP 15 ∷ POP 14 ∷ POP 13 ∷ POP 12 ∷ POP 3 ∷ POP 2 ∷ RET ∷ []

opening_formed : Each WellFormedCode opening
unfolding fields_ok operands_ok used code_of readers
opening_formed = each_formed opening refl

closing_formed : Each WellFormedCode closing
unfolding fields_ok operands_ok used code_of readers
closing_formed = each_formed closing refl

pub items_length : (k : ℕ) (s : List ℕ) → length (items 24 code_in k s) ≡ k
items_length zero s = refl
items_length (suc k) s = ap suc (items_length k _)

on_body : (c : Result ℕ Malformed) (r : Answer) → accepted (on_checked c (λ k. r) (λ place. Err (Body place))) ≡ true → (k : ℕ) × (c ≡ Ok k) × (accepted r ≡ true)
on_body (Ok k) r e = (k, refl, e)
on_body (Err m) r e = never e

module _ (G : Shape) (sup : Supported G) where
  -- the frame's bytes and a block's
  space_fits : spill_space G < 2 ^ 64
  space_fits = omega (arith, sup.frame)

  block_fits : block_bytes G < 2 ^ 64
  block_fits = omega (arith, sup.few)

  pub head_formed : (n : ℕ) → n ≤ 5 → Each WellFormedCode (head G n)
  head_formed n h =
      let m : List Code = SUBI STACK (spill_space G) ∷ MOV HEAP (argument 0) ∷ MOV FREE HEAP ∷ ADDI FREE (block_bytes G) ∷ [] in
      each_append WellFormedCode (preamble ++ setup G) (move_arguments n)
      (each_append WellFormedCode opening m opening_formed (subi stack space_fits, (mov heap (omega arith), (mov free heap, (addi free block_fits, tt)))))
      (arguments_formed n h)

  cleanup_formed : Each WellFormedCode (cleanup G)
  cleanup_formed = (lab (drawn (omega arith) (omega arith)), (addi stack space_fits, closing_formed))

  -- an accepted routine has at most five arguments
  pub few_arguments : (room n : ℕ) (body : List ℕ) → accepted (routine_answer G room n body) ≡ true → n ≤ 5
  unfolding routine_answer
  few_arguments room n body e = ltb-false 5 n (passed accepted (ltb 5 n) (Err Arguments) _ refl (on_body (checked_codes 65506 body) _ e).2).0

  pub routine_readable : (n k : ℕ) (body : List ℕ) → n ≤ 5 → Bytes body → checked_codes 65506 body ≡ Ok k
      → Readable (head G n ++ (items 24 code_in k body ++ cleanup G))
  routine_readable n k body five b e =
      let r = codes_formed 65506 k body b e in
      let codes : List Code = items 24 code_in k body in
      readable (head G n ++ (codes ++ cleanup G))
      (each_append WellFormedCode (head G n) (codes ++ cleanup G) (head_formed n five) (each_append WellFormedCode codes (cleanup G) r.0 cleanup_formed))
      (omega (arith, length-append (head G n) (codes ++ cleanup G), length-append codes (cleanup G), head_length G n, items_length k body, r.1, five))

  pub routine_reads : (room n : ℕ) (body : List ℕ) → Bytes body → accepted (routine_answer G room n body) ≡ true → RoutineReads G n body
  unfolding routine_answer
  routine_reads room n body b e =
      let c = on_body (checked_codes 65506 body) _ e in
      record { count = c.0; of_body = c.1; bytes = routine_records G n c.0 body b c.1; read = routine_readable n c.0 body (few_arguments room n body e) b c.1 }
