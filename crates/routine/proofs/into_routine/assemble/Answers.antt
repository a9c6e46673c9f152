use borrow.Author.Rules.{rules}
use mathlib.Core.Path.{refl}
use native.Mathlib.Omega.{arith}
use Rattle.routine.proofs.Assembling.{body_place, assembled}
use Rattle.routine.proofs.into_routine.assemble.Goals as goal

pub copy_bytes-requires : goal.copy_bytes-requires
copy_bytes-requires c = let k = body_place c.args.g c.args.n c.emit_head-q.ensures refl in (omega arith, omega arith)

pub overflow_add-end : goal.overflow_add-end
overflow_add-end c = let k = body_place c.args.g c.args.n c.emit_head-q.ensures refl in omega arith

pub emit_cleanup-requires : goal.emit_cleanup-requires
emit_cleanup-requires c = let k = body_place c.args.g c.args.n c.emit_head-q.ensures refl in (omega arith, search rules)

pub returns : goal.returns
returns c = let a = c.args in assembled a.g a.n a.body.now (omega arith) c.emit_head-q.ensures refl c.copy_bytes.ensures c.emit_cleanup.ensures refl
