use mathlib.Core.Path.{refl, sym, ◌∙◌}
use Rattle.records.proofs.Answers.{answers_by}
use Rattle.machine_step.specs.View.{words_of}
use Rattle.machine.specs.State.{see}
use Rattle.machine.proofs.Trying.{heap_refused, code_refused, performs}
use Rattle.machine.proofs.step.step.Goals as goal

pub returns-then-not-heap_ok : goal.returns-then-not-heap_ok
returns-then-not-heap_ok c = λ calls. answers_by (heap_refused c.args.block (words_of c.args.words) c.args.code (see c.args.state c.args.heap.now) c.args.compared calls c.heap_ok.ensures c.if-not-heap_ok.true)

pub returns-then-not-fields_ok : goal.returns-then-not-fields_ok
returns-then-not-fields_ok c = λ calls. answers_by (code_refused c.args.block (words_of c.args.words) c.args.code (see c.args.state c.args.heap.now) c.args.compared calls c.heap_ok.ensures c.if-not-heap_ok.false c.fields_of-f.ensures c.fields_ok.ensures c.if-not-fields_ok.true)

pub act-m-requires : goal.act-m-requires
act-m-requires c = (refl, sym c.fields_ok.ensures ∙ c.if-not-fields_ok.false, c.well_formed.1.1.0.1.1.0.1.0.1)

pub returns : goal.returns
returns c = λ calls. answers_by (performs c.args.block (words_of c.args.words) c.args.code c.args.state.registers c.args.state.stack c.args.heap.now calls c.heap_ok.ensures c.if-not-heap_ok.false c.fields_of-f.ensures c.fields_ok.ensures c.if-not-fields_ok.false c.pair_of.ensures c.compared_of.ensures c.act-m.ensures)
