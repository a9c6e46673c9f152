-- A routine of an accepted body and at most 5 arguments has no more than 65,536 records.
use Rattle.records.specs.declared.check.Malformed.{Malformed}
use Rattle.std.specs.Prelude.{Err, Ok, Result}
use Prim.Native.Nat.{ℕ, ◌*◌, ◌≤◌}
use mathlib.Core.Path.{◌≡◌, refl}
use mathlib.Core.Logic.{◌≢◌}
use mathlib.Core.Bool.{Bool, true, false, cond}
use mathlib.Core.List.{List}
use native.Mathlib.Omega.{arith}
use lib.Dec.{ltb}
use lib.ListN.{length}
use borrow.Author.Tests.{ltb-false, le-ltb}
use Rattle.records.specs.Checked.{places, checked, on_checked}
use Rattle.records.specs.Instructions.{code_starts, checked_codes}
use Rattle.records.proofs.Checking.{all_checked, good_within}
use Rattle.records.proofs.CodesRead.{starts_whole}
use Rattle.emit.specs.declared.answer.Refusal.TheVariants.{Body, Arguments, Room}
use Rattle.emit.specs.Answers.{granted}
use Rattle.layout.specs.declared.config.Shape.{Shape}
use Rattle.routine.specs.Routine.{routine_bytes, accepting, routine_answer}
use Rattle.routine.proofs.Assembling.{bytes_length}
use Rattle.port_rooms_proof.specs.Sizes.{room_for_routine}

body_long : (body : List ℕ) (k : ℕ) → checked_codes 65506 body ≡ Ok k → length body ≤ 24 * 65506
unfolding checked
body_long body k e =
    let q = all_checked code_starts 24 65506 body 0 (places 24 body) k e in
    let w = good_within code_starts 24 65506 body starts_whole 0 (places 24 body) k e (omega arith) (omega arith) in
    omega (arith, w.0)

module _ (g : Shape) (room n : ℕ) (h : room_for_routine ≤ room) (bytes : ℕ) where
  written : (body : List ℕ) → length body ≤ 24 * 65506 → n ≤ 5 → granted 0 room (length (routine_bytes g n body)) 0 ≢ Err (Room bytes)
  unfolding granted
  written body l m e =
      let f = rw (le-ltb room (length (routine_bytes g n body)) (omega (arith, bytes_length g n body))) at e in
      let z : ◌≡◌ {A = ℕ} 0 1 = cc in
      omega arith

  arguments : (body : List ℕ) → length body ≤ 24 * 65506 → (b : Bool) → ltb 5 n ≡ b
      → cond b (Err Arguments) (granted 0 room (length (routine_bytes g n body)) 0) ≢ Err (Room bytes)
  arguments body l true e r = let z : ◌≡◌ {A = ℕ} 0 1 = cc in omega arith
  arguments body l false e r = written body l (ltb-false 5 n e) r

  pub no_room_wanted : (body : List ℕ) → routine_answer g room n body ≢ Err (Room bytes)
  unfolding routine_answer
  no_room_wanted body = by (checked_codes 65506 body) refl
    where
      by : (c : Result ℕ Malformed) → checked_codes 65506 body ≡ c → on_checked c (λ k. accepting g room n body) (λ place. Err (Body place)) ≢ Err (Room bytes)
      by (Ok k) e r = arguments body (body_long body k e) (ltb 5 n) refl r
      by (Err bad) e r = let z : ◌≡◌ {A = ℕ} 0 1 = cc in omega arith
