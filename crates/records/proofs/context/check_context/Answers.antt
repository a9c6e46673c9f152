use mathlib.Core.Path.{◌∙◌}
use Rattle.records.proofs.Answers.{answers_by}
use Rattle.records.proofs.ContextsRead.{counted_from_none}
use Rattle.records.proofs.context.check_context.Goals as goal

pub returns : goal.returns
returns c = answers_by (c.check_after.ensures.answer ∙ counted_from_none _)
