use mathlib.Core.Path.{◌∙◌}
use Rattle.std.proofs.Math.Nat.{min_comm}
use Rattle.channel_step.proofs.Finding.{finds_none, finds}
use Rattle.channel_step.proofs.list.item_at.Goals as goal

pub returns-then-list-at : goal.returns-then-list-at
returns-then-list-at c = finds_none _ _ c.if-list-at.true

pub returns : goal.returns
returns c =
    finds _ _ c.if-list-at.false (c.min.ensures ∙ min_comm _ 24) c.read_order.ensures.answer c.bytes_after-bytes.ensures (c.min-2.ensures ∙ min_comm _ _)
