use Rattle.machine.proofs.Claims.{views_determine}
use Rattle.machine.proofs.views_determine.Goals as goal

pub returns : goal.returns
returns c = views_determine
