use Rattle.plan.proofs.Reading.{plans_are_read}
use Rattle.plan.proofs.plans_are_read.Goals as goal

pub returns : goal.returns
returns c = plans_are_read
