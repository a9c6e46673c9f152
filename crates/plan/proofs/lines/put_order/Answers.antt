use Rattle.plan.proofs.Putting.{put_whole, whole_order, order_size}
use Rattle.plan.proofs.lines.put_order.Goals as goal

pub returns : goal.returns
returns c = put_whole (whole_order c.args.o c.write_order.ensures) (order_size c.args.o) c.put_bytes.ensures
