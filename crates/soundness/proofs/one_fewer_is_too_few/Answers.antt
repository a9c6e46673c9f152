use Rattle.soundness.proofs.Fewest.{one_fewer_is_too_few}
use Rattle.soundness.proofs.one_fewer_is_too_few.Goals as goal

pub returns : goal.returns
returns c = one_fewer_is_too_few
