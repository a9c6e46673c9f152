use Rattle.text.proofs.Putting.{◌⨟◌}
use Rattle.report.specs.Answers.{acceptance}
use Rattle.report.proofs.answers.put_acceptance.Goals as goal

pub returns : goal.returns
unfolding acceptance
returns c = c.put_count-next.ensures ⨟ c.put_count.ensures
