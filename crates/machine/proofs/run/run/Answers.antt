use mathlib.Core.Path.{sym, ◌∙◌}
use Rattle.machine_step.specs.View.{words_of}
use Rattle.machine.proofs.Checks.{accepted, ran_heap, ran_malformed, ran_ends}
use Rattle.machine.proofs.run.run.Goals as goal

pub returns-then-not-heap_ok : goal.returns-then-not-heap_ok
returns-then-not-heap_ok c = ran_heap c.args.block (words_of c.args.words) c.args.records.now c.args.limit c.args.state.registers c.args.state.stack c.args.heap.now c.heap_ok.ensures c.if-not-heap_ok.true

pub turns-requires : goal.turns-requires
turns-requires c = (accepted 65536 _ (sym c.check_codes.ensures.answer ∙ c.in-Ok.is), sym c.heap_ok.ensures ∙ c.if-not-heap_ok.false)

pub returns-in-Err : goal.returns-in-Err
returns-in-Err c = rw c.from.ensures (ran_malformed c.args.block (words_of c.args.words) c.args.records.now c.args.limit c.args.state.registers c.args.state.stack c.args.heap.now c.heap_ok.ensures c.if-not-heap_ok.false c.check_codes.ensures.answer c.in-Err.is)

pub returns-in-Ok : goal.returns-in-Ok
returns-in-Ok c = ran_ends c.args.block (words_of c.args.words) c.args.records.now c.args.limit c.args.state.registers c.args.state.stack c.args.heap.now c.heap_ok.ensures c.if-not-heap_ok.false c.check_codes.ensures.answer c.in-Ok.is c.turns.ensures
