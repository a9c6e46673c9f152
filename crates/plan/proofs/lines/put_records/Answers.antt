use Rattle.std.proofs.Common.{arith}
use Rattle.plan.specs.Plan.{plan_records}
use Rattle.text.proofs.Putting.{◌⨟◌}
use Rattle.plan.proofs.lines.put_records.Goals as goal

pub put_following-requires : goal.put_following-requires
put_following-requires c = omega (arith, c.put_order-next.ensures.few)

pub returns : goal.returns
unfolding plan_records
returns c = c.put_order-next.ensures ⨟ c.put_following.ensures
