use Rattle.channel_step.proofs.Played.{in_use}
use Rattle.channel_step.proofs.channel.ask.Goals as goal

pub returns : goal.returns
returns c = in_use _ _ c.min-end.ensures c.order.ensures
