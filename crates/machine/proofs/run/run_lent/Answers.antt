use mathlib.Core.Path.{sym, ◌∙◌}
use Rattle.layout.proofs.Placing.{handed_on}
use Rattle.machine_step.specs.View.{words_of}
use Rattle.machine.proofs.Checks.{accepted, ran_heap, ran_malformed, ran_ends}
use Rattle.machine.proofs.run.run_lent.Goals as goal

pub returns-then-not-heap_ok : goal.returns-then-not-heap_ok
returns-then-not-heap_ok c = ran_heap c.args.block (words_of c.args.words.now) c.args.records.now c.args.limit c.args.registers.now c.args.stack.now c.args.heap.now c.heap_ok.ensures c.if-not-heap_ok.true

pub steps-requires : goal.steps-requires
steps-requires c = (accepted 65536 _ (sym c.check_codes.ensures.answer ∙ c.in_ok-n.was), c.told-registers)

pub returns-in_err-n : goal.returns-in_err-n
returns-in_err-n c = rw (handed_on c.from_residual.result c.from_residual.ensures.1) (ran_malformed c.args.block (words_of c.args.words.now) c.args.records.now c.args.limit c.args.registers.now c.args.stack.now c.args.heap.now c.heap_ok.ensures c.if-not-heap_ok.false c.check_codes.ensures.answer c.in_err-n.was)

pub returns : goal.returns
returns c = ran_ends c.args.block (words_of c.args.words.now) c.args.records.now c.args.limit c.args.registers.now c.args.stack.now c.args.heap.now c.heap_ok.ensures c.if-not-heap_ok.false c.check_codes.ensures.answer c.in_ok-n.was c.steps.ensures
