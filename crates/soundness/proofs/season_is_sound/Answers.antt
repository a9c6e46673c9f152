use Rattle.soundness.proofs.Fewest.{season_is_sound}
use Rattle.soundness.proofs.season_is_sound.Goals as goal

pub returns : goal.returns
returns c = season_is_sound
