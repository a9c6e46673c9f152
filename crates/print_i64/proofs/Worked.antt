-- The scope's worked numbers on print, and records that the Rust gives.
use mathlib.Core.Path.{◌≡◌, refl}
use mathlib.Core.Bool.{true, false}
use mathlib.Core.List.{[], ◌∷◌}
use Rattle.records.specs.declared.code.Code.TheVariants.{ADDI, SUBI, MOV, MOVL, PUSH, POP, CALL}
use Rattle.records.specs.Names.{PRINTI64, PRINTLNI64}
use Rattle.trees.specs.Tree.{size, flat}
use Rattle.layout.specs.Config.{base, stack_offset}
use Rattle.print_i64.specs.Print.{print_i64}

-- 'print, one Ext: 6 records; six Ext: 12'
one_integer : flat (print_i64 base false 5 (λ v. true) 1) 0
    ≡ MOV 12 5 ∷ SUBI 0 8 ∷ MOV 7 5 ∷ CALL PRINTI64 ∷ MOV 5 12 ∷ ADDI 0 8 ∷ []
one_integer = refl

six_integers : size (print_i64 base false 5 (λ v. true) 6) ≡ 12
six_integers = refl

-- five linked variables and a source in spill 1: two free registers, six pushes
five_linked : flat (print_i64 base true 17 (λ v. false) 5) 0
    ≡ MOVL 1 0 2032 ∷ MOV 14 4 ∷ MOV 15 5 ∷ PUSH 6 ∷ PUSH 7 ∷ PUSH 8 ∷ PUSH 9 ∷ PUSH 10 ∷ PUSH 11 ∷ SUBI 0 8 ∷ MOV 7 1 ∷ CALL PRINTLNI64
    ∷ MOV 4 14 ∷ MOV 5 15 ∷ ADDI 0 8 ∷ POP 11 ∷ POP 10 ∷ POP 9 ∷ POP 8 ∷ POP 7 ∷ POP 6 ∷ []
unfolding stack_offset
five_linked = refl
