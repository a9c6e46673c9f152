use Prim.Native.Nat.{◌*◌}
use Rattle.order_check.proofs.Leaving.{kept_and_brought}
use Rattle.order_check.proofs.after.keep_and_bring.Goals as goal

pub returns : goal.returns
returns c = let a = c.args in kept_and_brought a.out.now a.context.now (8 * a.kept) a.bindings.now c.requires.1 c.copy_bytes.ensures c.copy_bytes-2.ensures
