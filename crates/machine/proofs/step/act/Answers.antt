use native.Mathlib.Omega.{arith}
use Rattle.records.proofs.CodesRead.{ok_code}
use Rattle.machine_step.specs.View.{words_of}
use Rattle.machine.proofs.Tables.{acts}
use Rattle.machine.proofs.Trying.{ok_registers}
use Rattle.machine.proofs.step.act.Goals as goal

pub overflow_sub-kind : goal.overflow_sub-kind
overflow_sub-kind c = (ok_code c.args.f c.requires.1).0

pub bounds-kinds-f : goal.bounds-kinds-f
bounds-kinds-f c = let k = ok_code c.args.f c.requires.1 in omega arith

pub perform-requires : goal.perform-requires
perform-requires c = let r = ok_registers c.args.f c.requires.1 in (r.0, r.1, c.requires.2)

pub returns : goal.returns
returns c = acts (words_of c.args.words.now) c.args.kinds.now c.args.f c.requires.0 c.requires.1 c.perform.ensures
