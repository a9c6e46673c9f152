use Prim.Native.Nat.{◌*◌}
use Rattle.order_spec.specs.Writes.{made_all}
use Rattle.order_check.proofs.Leaving.{kept_then}
use Rattle.order_check.proofs.after.keep_and_make.Goals as goal

pub returns : goal.returns
returns c = let a = c.args in kept_then a.out.now a.context.now (8 * a.kept) (made_all a.kind a.kept a.n) c.requires.2 c.copy_bytes.ensures c.make_bindings.ensures
