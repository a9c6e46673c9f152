use Prim.Native.Nat.{ℕ, ◌*◌}
use mathlib.Core.Path.{sym, ap, ◌∙◌}
use Rattle.channel_step.specs.Lists.{bytes_after}
use Rattle.channel_step.proofs.list.bytes_after.Goals as goal

-- eight bytes for each binding that the order wants
pub returns-in-Ok : goal.returns-in-Ok
returns-in-Ok c = ap (λ (n : ℕ). 8 * n) c.wanted.ensures ∙ sym (ap bytes_after c.in-Ok.is)
