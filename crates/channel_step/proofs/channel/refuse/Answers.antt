use Rattle.channel_step.proofs.Played.{refused_stays}
use Rattle.channel_step.proofs.channel.refuse.Goals as goal

pub returns : goal.returns
returns c = rw c.not_run.ensures (refused_stays c.requires c.ask-answer.ensures)
