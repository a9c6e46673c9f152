-- How many records an operation has at most: a division nine.
use Prim.Native.Nat.{ℕ, ◌≤◌}
use mathlib.Core.List.{List, [], ◌∷◌, ◌++◌}
use native.Mathlib.Omega.{arith}
use lib.Dec.{ltb}
use lib.ListN.{length, length-append}
use Rattle.records.specs.declared.code.Code.{Code}
use Rattle.records.proofs.Conditions.{both_ways}
use Rattle.trees.specs.Tree.{Tree, flat}
use Rattle.trees.proofs.Flat.{length_flat}
use Rattle.layout.specs.declared.config.Shape.{Shape}
use Rattle.code.specs.Code.{jump_if}
use Rattle.code.proofs.Sizes.{Plain, plain_arithmetic, plain_compare, plain_compare_immediate, plain_load_immediate, plain_load_label, plain_mov}
use Rattle.operations.specs.declared.operation.Operation.{Operation}
use Rattle.operations.specs.declared.operation.Operation.TheVariants.{Label, Jump, JumpLabel, JumpLabelFixed, JumpLabelIf, JumpLabelIfZero, LoadImmediate, LoadLabel, AddAndJump, Arithmetic, Mov, Compare, CompareImmediate}
use Rattle.operations.specs.Operations.{operation_records}

plain_few : {t : Tree} {n : ℕ} → Plain t n → n ≤ 9 → length (flat t 0) ≤ 9
plain_few {t} p h = omega (arith, length_flat t 0 0, p.most)

one_more : {t : Tree} {n : ℕ} → Plain t n → n ≤ 8 → (x : Code) → length (flat t 0 ++ (x ∷ [])) ≤ 9
one_more {t} p h x = omega (arith, length_flat t 0 0, length-append (flat t 0) (x ∷ []), p.most)

pub nine_at_most : (g : Shape) (o : Operation) → length (operation_records g o) ≤ 9
unfolding operation_records
nine_at_most g (Label l) = omega arith
nine_at_most g (Jump w) = both_ways (λ (cs : List Code). length cs ≤ 9) (ltb w 16) (omega arith) (omega arith)
nine_at_most g (JumpLabel l) = omega arith
nine_at_most g (JumpLabelFixed l) = omega arith
nine_at_most g (JumpLabelIf k x y l) = one_more (plain_compare g x y) (omega arith) (jump_if k l)
nine_at_most g (JumpLabelIfZero k w l) = one_more (plain_compare_immediate g w 0) (omega arith) (jump_if k l)
nine_at_most g (LoadImmediate w value) = plain_few (plain_load_immediate g w value) (omega arith)
nine_at_most g (LoadLabel w l) = plain_few (plain_load_label g w l) (omega arith)
nine_at_most g (AddAndJump w value) = both_ways (λ (cs : List Code). length cs ≤ 9) (ltb w 16) (omega arith) (omega arith)
nine_at_most g (Arithmetic o w x y) = plain_few (plain_arithmetic g o w x y) (omega arith)
nine_at_most g (Mov w x) = plain_few (plain_mov g w x) (omega arith)
nine_at_most g (Compare x y) = plain_few (plain_compare g x y) (omega arith)
nine_at_most g (CompareImmediate w value) = plain_few (plain_compare_immediate g w value) (omega arith)
