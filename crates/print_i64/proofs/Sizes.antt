-- How many records print_i64 has, and that it draws no labels.
use Prim.Native.Nat.{ℕ, zero, suc, ◌+◌, ◌*◌, ◌-◌, ◌%◌, ◌≤◌, min}
use mathlib.Core.Path.{◌≡◌, refl}
use mathlib.Core.Bool.{Bool, true, false}
use mathlib.Core.List.{List, [], ◌∷◌}
use native.Mathlib.Omega.{arith}
use lib.Dec.{ltb, eqb}
use lib.ListN.{length, length-append, take, drop}
use Rattle.records.specs.declared.code.Code.{Code}
use Rattle.records.specs.declared.code.Code.TheVariants.{ADDI, SUBI}
use Rattle.records.proofs.Conditions.{both_ways}
use Rattle.trees.specs.Tree.{straight, labels, size}
use Rattle.layout.specs.declared.config.Shape.{Shape}
use Rattle.layout.specs.Config.{STACK}
use Rattle.print_i64.specs.Registers.{registers_of, registers_to, registers_to_save, first_backup, backups_used}
use Rattle.print_i64.specs.Print.{moves, moves_back, pushes, pops, if_even, save_registers, restore_registers, source_to_temp, print_saving, print_i64}

pub plain_moves : (f : ℕ) (rs : List ℕ) → (labels (moves f rs) ≡ 0) × (size (moves f rs) ≡ length rs)
plain_moves f [] = (refl, refl)
plain_moves f (r ∷ rs) = let p = plain_moves (f + 1) rs in (omega arith, omega arith)

pub plain_back : (f : ℕ) (rs : List ℕ) → (labels (moves_back f rs) ≡ 0) × (size (moves_back f rs) ≡ length rs)
plain_back f [] = (refl, refl)
plain_back f (r ∷ rs) = let p = plain_back (f + 1) rs in (omega arith, omega arith)

pub plain_pushes : (rs : List ℕ) → (labels (pushes rs) ≡ 0) × (size (pushes rs) ≡ length rs)
plain_pushes [] = (refl, refl)
plain_pushes (r ∷ rs) = let p = plain_pushes rs in (omega arith, omega arith)

pub plain_pops : (rs : List ℕ) → (labels (pops rs) ≡ 0) × (size (pops rs) ≡ length rs)
plain_pops [] = (refl, refl)
plain_pops (r ∷ rs) = let p = plain_pops rs in (omega arith, omega arith)

pub even_size : (pushed : ℕ) (x : Code) (s : straight x ≡ true) → (labels (if_even pushed x s) ≡ 0) × (size (if_even pushed x s) ≤ 1)
even_size pushed x s = both_ways (λ t. (labels t ≡ 0) × (size t ≤ 1)) (eqb (pushed % 2) 0) (omega arith) (omega arith)

parts : (u : ℕ) (rs : List ℕ) → length (take u rs) + length (drop u rs) ≡ length rs
parts zero rs = omega arith
parts (suc u) [] = refl
parts (suc u) (r ∷ rs) = omega (arith, parts u rs)

pub save_size : (f u : ℕ) (rs : List ℕ) → (labels (save_registers f u rs) ≡ 0) × (size (save_registers f u rs) ≤ length rs + 1)
save_size f u rs =
    let a = plain_moves f (take u rs) in
    let b = plain_pushes (drop u rs) in
    let e = even_size (length rs - u) (SUBI STACK 8) refl in
    (omega arith, omega (arith, parts u rs))

pub restore_size : (f u : ℕ) (rs : List ℕ) → (labels (restore_registers f u rs) ≡ 0) × (size (restore_registers f u rs) ≤ length rs + 1)
restore_size f u rs =
    let a = plain_back f (take u rs) in
    let b = plain_pops (drop u rs) in
    let e = even_size (length rs - u) (ADDI STACK 8) refl in
    (omega arith, omega (arith, parts u rs))

module _ (g : Shape) where
  pub source_size : (w : ℕ) → (labels (source_to_temp g w) ≡ 0) × (size (source_to_temp g w) ≤ 1)
  source_size w = both_ways (λ t. (labels t ≡ 0) × (size t ≤ 1)) (ltb w 16) (omega arith) (omega arith)

  pub saving_size : (newline : Bool) (w f u : ℕ) (rs : List ℕ)
      → (labels (print_saving g newline w f u rs) ≡ 0) × (size (print_saving g newline w f u rs) ≤ 2 * length rs + 5)
  saving_size newline w f u rs =
      let a = source_size w in
      let b = save_size f u rs in
      let c = restore_size f u rs in
      (omega arith, omega arith)

own_most : (ext : Bool) (v : ℕ) → length (registers_of ext v) ≤ 2
own_most true v = omega arith
own_most false v = omega arith

pub registers_most : (ext : ℕ → Bool) (k : ℕ) → length (registers_to ext k) ≤ 2 * k
registers_most ext zero = omega arith
registers_most ext (suc k) = omega (arith, length-append (registers_to ext k) (registers_of (ext k) k), own_most (ext k) k, registers_most ext k)

-- no labels, and at most 21 records
pub print_size : (g : Shape) (newline : Bool) (w : ℕ) (ext : ℕ → Bool) (n : ℕ) → (labels (print_i64 g newline w ext n) ≡ 0) × (size (print_i64 g newline w ext n) ≤ 21)
print_size g newline w ext n =
    let rs = registers_to_save ext n in
    let z = saving_size g newline w (first_backup n) (backups_used n (length rs)) rs in
    let y = registers_most ext (min n 4) in
    (z.0, omega arith)
