-- The parts of a routine: one argument of those left, and how long an accepted body is.
use Rattle.std.specs.Prelude.{Ok}
use Prim.Native.Nat.{ℕ, zero, suc, ◌+◌, ◌*◌, ◌-◌, ◌≤◌, ◌<◌}
use mathlib.Core.Path.{◌≡◌, refl}
use mathlib.Core.List.{List, ◌∷◌}
use native.Mathlib.Omega.{arith}
use lib.ListN.{length}
use Rattle.records.specs.declared.code.Code.TheVariants.{MOV}
use Rattle.records.specs.Checked.{places, checked}
use Rattle.records.specs.Instructions.{code_starts, checked_codes}
use Rattle.records.proofs.Checking.{all_checked, good_within}
use Rattle.records.proofs.CodesRead.{starts_whole}
use Rattle.emit.specs.declared.cursor.Cursor.{Cursor}
use Rattle.emit.specs.Emitted.{fields_list, Emitted}
use Rattle.routine.specs.Routine.{argument, move_arguments}

pub next_argument : (n : ℕ) → 0 < n → move_arguments n ≡ MOV (2 * n + 3) (argument n) ∷ move_arguments (n - 1)
next_argument zero h = absurd (omega arith)
next_argument (suc n) h = let e : suc n - 1 ≡ n = omega arith in rw e

pub body_length : (s : List ℕ) (n : ℕ) → checked_codes 65506 s ≡ Ok n → length s ≤ 24 * 65506
unfolding checked
body_length s n e =
    let q = all_checked code_starts 24 65506 s 0 (places 24 s) n e in
    let w = good_within code_starts 24 65506 s starts_whole 0 (places 24 s) n e (omega arith) (omega arith) in
    omega arith

pub none_left : {o : List ℕ} {p : Cursor} {n : ℕ} → n ≡ 0 → Emitted o p o p (fields_list (move_arguments n)) 0
none_left e = rw e (record { bytes = refl; place = omega arith; drawn = omega arith })
