use Rattle.layout.proofs.Placing.{shaped_supported}
use mathlib.Core.Path.{refl}
use Rattle.channel_step.proofs.Played.{starts_so}
use Rattle.channel_step.proofs.channel.fresh.Goals as goal

pub returns : goal.returns
returns c =
    record {
      edition_is = refl;
      frame_is = refl;
      starts = λ g e blocks. starts_so g (shaped_supported _ _ e) (c.fresh_registers.ensures g e) blocks;
    }
