use borrow.Author.Rules.{rules}
use mathlib.Core.Path.{refl, ◌∙◌}
use Rattle.machine_step.specs.View.{words_of}
use Rattle.machine.proofs.Running.{listed_ok, turned, going_limit, going_past, going_through, going_on, going_ended, going_faulted}
use Rattle.machine.proofs.run.steps.Goals as goal

pub returns-then-place-n : goal.returns-then-place-n
returns-then-place-n c = going_limit (words_of c.args.words.now) c.args.s.now c.args.n c.args.limit c.loop-done.invariant.0 c.if-place-n.true c.loop-done-test.false

pub returns-then-n-place : goal.returns-then-n-place
returns-then-n-place c = going_past (words_of c.args.words.now) c.args.s.now c.args.n c.args.limit c.loop-done.invariant.0 c.if-n-place.true

pub act-m-requires : goal.act-m-requires
act-m-requires c = (refl, listed_ok c.requires.0 c.if-n-place.false c.fields_at-f.ensures, c.loop-done.invariant.1)

pub loop-done-preserved : goal.loop-done-preserved
loop-done-preserved c = (going_on (words_of c.args.words.now) c.args.s.now c.args.n c.args.limit c.loop-done.invariant.0 c.if-n-place.false c.loop-done-test.true (turned (words_of c.args.words.now) c.args.s.now c.args.n c.fields_at-f.ensures c.act-m.ensures c.follow.ensures) c.in-To.is, c.act-m.ensures.sized.registers, c.act-m.ensures.sized.stack ∙ c.loop-done.invariant.2, search rules)

pub returns-in-End : goal.returns-in-End
returns-in-End c = going_ended (words_of c.args.words.now) c.args.s.now c.args.n c.args.limit c.loop-done.invariant.0 c.if-n-place.false c.loop-done-test.true (turned (words_of c.args.words.now) c.args.s.now c.args.n c.fields_at-f.ensures c.act-m.ensures c.follow.ensures) c.in-End.is

pub returns-in-Fault : goal.returns-in-Fault
returns-in-Fault c = going_faulted (words_of c.args.words.now) c.args.s.now c.args.n c.args.limit c.loop-done.invariant.0 c.if-n-place.false c.loop-done-test.true (turned (words_of c.args.words.now) c.args.s.now c.args.n c.fields_at-f.ensures c.act-m.ensures c.follow.ensures) c.in-Fault.is

pub returns : goal.returns
returns c = going_through (words_of c.args.words.now) c.args.s.now c.args.n c.args.limit c.loop-done.invariant.0 c.if-place-n.false c.loop-done-test.false
