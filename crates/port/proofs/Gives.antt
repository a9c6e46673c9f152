-- What a run gives and what a start sets, told by the edition and the frame.
use Rattle.layout.specs.declared.config.Unshaped.{Unshaped}
use Rattle.records.specs.declared.check.Malformed.{Malformed}
use Rattle.std.specs.Prelude.{Err, None, Ok, Some, Option, Result}
use Prim.Native.Nat.{ℕ}
use mathlib.Core.Path.{◌≡◌, refl, ap, ◌∙◌}
use mathlib.Core.Bool.{Bool, true, false}
use mathlib.Core.List.{List, [], ◌∷◌}
use lib.ListN.{replicate}
use Rattle.records.specs.Causes.{ACCEPTED, MALFORMED, OPERAND, EDITION}
use Rattle.records.specs.Instructions.{checked_codes}
use Rattle.layout.specs.declared.config.Unshaped.TheVariants.{NoFrame, NoEdition}
use Rattle.layout.specs.declared.config.Shape.{Shape}
use Rattle.layout.specs.Config.{stack_depth, block_words}
use Rattle.machine.specs.Run.{ran, Leaves, RunAnswer}
use Rattle.machine_step.specs.View.{View}
use Rattle.machine_step.specs.Memory.{heap_ok}
use Rattle.port_numbers.specs.Run.{run_numbers}
use Rattle.port.specs.Run.{start_state, StartsRun, unrun, Gives}

start_stack : (g : Shape) (fresh : Bool) → replicate (stack_depth g) 0 ≡ (start_state g fresh).stack
start_stack g true = refl
start_stack g false = refl

module _ (f : Result Shape Unshaped) (fresh : Bool) {registers registers' stack stack' : List ℕ} where
  pub starts : {g : Shape} {words : ℕ} → f ≡ Ok g → registers' ≡ (start_state g fresh).registers → words ≡ stack_depth g → stack' ≡ replicate words 0 → StartsRun f fresh ACCEPTED registers registers' stack stack'
  starts {g} e r w s = rw e (record { answer = refl; registers_set = r; stack_set = s ∙ ap (λ (n : ℕ). replicate n 0) w ∙ start_stack g fresh })

  pub unframed_start : f ≡ Err NoFrame → registers' ≡ registers → stack' ≡ stack → StartsRun f fresh OPERAND registers registers' stack stack'
  unframed_start e r s = rw e (record { answer = refl; registers_set = r; stack_set = s })

  pub unknown_start : f ≡ Err NoEdition → registers' ≡ registers → stack' ≡ stack → StartsRun f fresh EDITION registers registers' stack stack'
  unknown_start e r s = rw e (record { answer = refl; registers_set = r; stack_set = s })

module _ (edition frame : Option Shape) (words : ℕ → ℕ) (s : List ℕ) (limit : ℕ) {v v' : View} {n m p : ℕ} where
  pub gives : {b g : Shape} {a : RunAnswer} {block : ℕ} → edition ≡ Some b → block ≡ block_words b → frame ≡ Some g → Leaves a v' (ran block words s limit v) → n ∷ m ∷ p ∷ [] ≡ run_numbers a
      → Gives edition frame words s limit v v' n m p
  gives e k f l t =
      let w = rw k at l in
      rw (e, f) (record { numbers = t ∙ ap run_numbers w.answer; last = w.last })

  pub gives_none : {b : Shape} {block : ℕ} → edition ≡ Some b → block ≡ block_words b → frame ≡ None → v' ≡ v → n ∷ m ∷ p ∷ [] ≡ unrun block s v.size
      → Gives edition frame words s limit v v' n m p
  gives_none e k f l t = rw (e, f) (record { numbers = rw k at t; last = l })

  pub gives_unknown : edition ≡ None → v' ≡ v → n ∷ m ∷ p ∷ [] ≡ EDITION ∷ 0 ∷ 0 ∷ [] → Gives edition frame words s limit v v' n m p
  gives_unknown e l t = rw e (record { numbers = t; last = l })

module _ (block : ℕ) (s : List ℕ) (size : ℕ) where
  pub bad_heap : heap_ok block size ≡ false → MALFORMED ∷ 0 ∷ 0 ∷ [] ≡ unrun block s size
  unfolding unrun
  bad_heap h = rw h

  pub bad_record : {bad : Malformed} → heap_ok block size ≡ true → checked_codes 65536 s ≡ Err bad → MALFORMED ∷ 0 ∷ bad.place ∷ [] ≡ unrun block s size
  unfolding unrun
  bad_record h e = rw (h, e)

  pub no_frame : {n : ℕ} → heap_ok block size ≡ true → checked_codes 65536 s ≡ Ok n → OPERAND ∷ 0 ∷ 0 ∷ [] ≡ unrun block s size
  unfolding unrun
  no_frame h e = rw (h, e)
