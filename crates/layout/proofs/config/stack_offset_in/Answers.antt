use native.Mathlib.Omega.{arith}
use Rattle.records.proofs.Answers.{answers_by}
use Rattle.layout.proofs.Placing.{no_low_spill, no_high_spill, spill_at}
use Rattle.layout.proofs.config.stack_offset_in.Goals.{then-w-le16-via-then-w-le16, then-w-le16-via-else-w-le16+then-g-w}
use Rattle.layout.proofs.config.stack_offset_in.Goals as goal

pub returns-then-w-le16 : goal.returns-then-w-le16
returns-then-w-le16 c = elim c.then-w-le16.branch [
  | then-w-le16-via-then-w-le16 w ↦ answers_by (no_low_spill _ _ (omega arith))
  | then-w-le16-via-else-w-le16+then-g-w w ↦ answers_by (no_high_spill _ _ (omega arith) (omega arith))
]

pub returns : goal.returns
returns c = answers_by (spill_at _ _ (omega arith) (omega arith) c.spill_offset.ensures)
