use mathlib.Core.Path.{ap, ◌∙◌}
use lib.ListN.{length, length-set}
use Rattle.text.proofs.Putting.{stored_one, passed_one}
use Rattle.text.proofs.put_byte.Goals as goal
use Rattle.text.proofs.put_byte.Goals.{then-at-text, else-at-text}

pub shape_of-text : goal.shape_of-text
shape_of-text c =
    elim c.if-at-text.branch [
      | then-at-text w ↦ ap length w.text-is ∙ simp length-set
      | else-at-text w ↦ ap length w.text-is
    ]

pub returns : goal.returns
returns c =
    elim c.if-at-text.branch [
      | then-at-text w ↦ stored_one _ _ _ w.text-is
      | else-at-text w ↦ passed_one _ _ _ w.text-is w.if-at-text.false
    ]
