-- Trees whose records are well formed: each straight record and each compare. The labels are drawn only when the tree is flattened.
-- From the scope, 'Instruction record': registers 0 to 15, labels that are held, offsets and values of 64 bits.
use mathlib.Core.Path.{◌≡◌}
use mathlib.Core.Bool.{true}
use Rattle.records.specs.declared.code.Code.{Code}
use Rattle.records.specs.ReadBack.{WellFormedCode}
use Rattle.trees.specs.Tree.{Tree, straight, nop, leaf, seq, skip_if_zero, if_zero}

infixr 5 ◌then◌
pub data Formed : Tree → Type 0 where
  none : Formed nop
  one : {x : Code} {p : straight x ≡ true} → WellFormedCode x → Formed (leaf x p)
  ◌then◌ : {t u : Tree} → Formed t → Formed u → Formed (seq t u)
  skipped : {x : Code} {p : straight x ≡ true} {t : Tree} → WellFormedCode x → Formed t → Formed (skip_if_zero x p t)
  chosen : {x : Code} {p : straight x ≡ true} {t e : Tree} → WellFormedCode x → Formed t → Formed e → Formed (if_zero x p t e)
