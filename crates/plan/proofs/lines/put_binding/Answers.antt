use Rattle.plan.proofs.Putting.{put_whole, whole_binding, binding_size}
use Rattle.plan.proofs.lines.put_binding.Goals as goal

pub returns : goal.returns
returns c = put_whole (whole_binding _ c.write_binding.ensures) (binding_size _) c.put_bytes.ensures
