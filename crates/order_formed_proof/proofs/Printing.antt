-- The tree of print_i64 is well formed: its registers are 4 to 11, and 12 to 15 where they are kept.
use Prim.Native.Nat.{ℕ, zero, suc, ◌+◌, ◌-◌, ◌%◌, ◌^◌, ◌≤◌, ◌<◌, min}
use mathlib.Core.Bool.{Bool, true, false}
use mathlib.Core.List.{List, [], ◌∷◌}
use native.Mathlib.Omega.{arith}
use lib.Dec.{eqb}
use lib.ListN.{length, take, drop, length-take}
use Rattle.records.specs.ReadBack.{Each}
use Rattle.records.proofs.Each.{each_drop, each_append}
use Rattle.layout.specs.declared.config.Shape.{Shape}
use Rattle.layout.specs.Config.{Supported}
use Rattle.print_i64.specs.Registers.{registers_of, registers_to, registers_to_save, first_backup, backups_used}
use Rattle.print_i64.specs.Print.{moves, moves_back, pushes, pops, save_registers, restore_registers, print_name, call_print, print_i64}
use Rattle.order_formed_proof.proofs.Formed.{Formed, none, one, ◌then◌}
use Rattle.order_formed_proof.proofs.Codes.{addi, subi, mov, movl, push, pop, Held, drawn, call}
use Rattle.order_formed_proof.proofs.Choices.{either, on_operand, offset_fits, stack, temp, block_register}

module _ (G : Shape) (sup : Supported G) where
  -- a list of registers
  abbrev Registers : List ℕ → Type 0
  Registers rs = Each (λ r. r < 16) rs

  -- into the free registers from f on, and back
  formed_moves : (f : ℕ) (rs : List ℕ) → Registers rs → length rs ≤ 16 - f → Formed (moves f rs)
  formed_moves f [] w h = none
  formed_moves f (r ∷ rs) w h = let l : f < 16 = omega arith in one (mov l w.0) then formed_moves (f + 1) rs w.1 (omega arith)

  moves_back_lem : (f : ℕ) (rs : List ℕ) → Registers rs → length rs ≤ 16 - f → Formed (moves_back f rs)
  moves_back_lem f [] w h = none
  moves_back_lem f (r ∷ rs) w h = let l : f < 16 = omega arith in one (mov w.0 l) then moves_back_lem (f + 1) rs w.1 (omega arith)

  formed_pushes : (rs : List ℕ) → Registers rs → Formed (pushes rs)
  formed_pushes [] w = none
  formed_pushes (r ∷ rs) w = one (push w.0) then formed_pushes rs w.1

  formed_pops : (rs : List ℕ) → Registers rs → Formed (pops rs)
  formed_pops [] w = none
  formed_pops (r ∷ rs) w = formed_pops rs w.1 then one (pop w.0)

  each_take : (n : ℕ) (rs : List ℕ) → Registers rs → Registers (take n rs)
  each_take zero rs w = tt
  each_take (suc n) [] w = tt
  each_take (suc n) (r ∷ rs) w = (w.0, each_take n rs w.1)

  eight_fits : 8 < 2 ^ 64
  eight_fits = omega arith

  module _ (f used : ℕ) (rs : List ℕ) (w : Registers rs) (h : used ≤ 16 - f) where
    formed_save : Formed (save_registers f used rs)
    formed_save =
        (formed_moves f (take used rs) (each_take used rs w) (omega (arith, length-take used rs)) then formed_pushes (drop used rs) (each_drop (λ r. r < 16) used rs w))
        then either (eqb ((length rs - used) % 2) 0) (one (subi stack eight_fits)) none

    formed_restore : Formed (restore_registers f used rs)
    formed_restore =
        moves_back_lem f (take used rs) (each_take used rs w) (omega (arith, length-take used rs))
        then either (eqb ((length rs - used) % 2) 0) (one (addi stack eight_fits)) none
        then formed_pops (drop used rs) (each_drop (λ r. r < 16) used rs w)

  own : (ext : Bool) (v : ℕ) → v < 4 → Registers (registers_of ext v)
  own true v h = (omega arith, tt)
  own false v h = (omega arith, (omega arith, tt))

  to_save : (ext : ℕ → Bool) (k : ℕ) → k ≤ 4 → Registers (registers_to ext k)
  to_save ext zero h = tt
  to_save ext (suc k) h =
      each_append (λ r. r < 16) (registers_to ext k) (registers_of (ext k) k) (to_save ext k (omega arith)) (own (ext k) k (omega arith))

  seven : 7 < 16
  seven = omega arith

  name_held : (newline : Bool) → Held (print_name newline)
  name_held true = drawn (omega arith) (omega arith)
  name_held false = drawn (omega arith) (omega arith)

  call_print_lem : (newline : Bool) (w : ℕ) → Formed (call_print newline w)
  call_print_lem newline w = one (mov seven (block_register w)) then one (call (name_held newline))

  pub formed_print : (newline : Bool) (w : ℕ) (ext : ℕ → Bool) (n : ℕ) → Formed (print_i64 G newline w ext n)
  formed_print newline w ext n =
      let rs : List ℕ = registers_to_save ext n in
      let f : ℕ = first_backup n in
      let used : ℕ = backups_used n (length rs) in
      let h : used ≤ 16 - f = omega arith in
      let all : Registers rs = to_save ext (min n 4) (omega arith) in
      on_operand w (λ l. none) (λ l. one (movl temp stack (offset_fits G sup w)))
      then formed_save f used rs all h
      then call_print_lem newline w
      then formed_restore f used rs all h
