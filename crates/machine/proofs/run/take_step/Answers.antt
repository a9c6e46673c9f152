use Rattle.machine_step.specs.View.{words_of}
use Rattle.machine.specs.State.{see}
use Rattle.machine.proofs.Trying.{not_unread, not_refused, turns}
use Rattle.machine.proofs.run.take_step.Goals as goal

pub returns-in_default : goal.returns-in_default
returns-in_default c = not_unread c.args.block (words_of c.args.words) c.args.n c.args.s.now c.args.place (see c.args.state c.args.heap.now) c.args.compared c.requires.0 c.requires.1 c.requires.2 c.read_code.ensures.answer c.in_default.is

pub returns-in-Err : goal.returns-in-Err
returns-in-Err c = not_refused c.args.block (words_of c.args.words) c.args.n c.args.s.now c.args.place (see c.args.state c.args.heap.now) c.args.compared c.requires.0 c.requires.1 c.requires.2 c.read_code.ensures.answer c.in-Some.is _ _ c.step-t.ensures c.in-Err.is

pub returns-in-Ok : goal.returns-in-Ok
returns-in-Ok c = turns c.args.block (words_of c.args.words) c.args.n c.args.s.now c.args.place (see c.args.state c.args.heap.now) c.args.compared c.requires.0 c.requires.1 c.requires.2 c.read_code.ensures.answer c.in-Some.is _ _ c.step-t.ensures c.in-Ok.is c.follow.ensures
