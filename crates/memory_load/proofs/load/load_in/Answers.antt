use borrow.Author.Rules.{rules}
use mathlib.Core.Path.{refl, sym, ◌∙◌}
use Rattle.records.proofs.ContextsRead.{context_within, counted_good}
use Rattle.emit.proofs.Wrote.{handed_on}
use Rattle.memory.specs.LoadAnswered.{load_answer}
use Rattle.memory_store.proofs.Answering.{answers_as}
use Rattle.memory_load.proofs.Answering.{tree, answer}
use Rattle.memory_load.proofs.load.load_in.Goals as goal

pub returns-in_err-v : goal.returns-in_err-v
unfolding load_answer
returns-in_err-v c = rw (sym c.check_context.ensures.answer ∙ c.in_err-v.was) (handed_on refl refl c.from_residual.ensures.1)

-- the variables to load come after the existing ones
pub check_after-requires : goal.check_after-requires
check_after-requires c = (context_within c.args.existing.now _ (sym c.check_context.ensures.answer ∙ c.in_ok-v.was)).0

pub returns-in_err-n : goal.returns-in_err-n
unfolding load_answer
returns-in_err-n c =
    rw (sym c.check_context.ensures.answer ∙ c.in_ok-v.was, sym c.check_after.ensures.answer ∙ c.in_err-n.was)
    (handed_on refl refl c.from_residual-in_err-n.ensures.1)

pub load_after-requires : goal.load_after-requires
load_after-requires c =
    let a = c.args in
    let e = context_within a.existing.now _ (sym c.check_context.ensures.answer ∙ c.in_ok-v.was) in
    let s = context_within a.loaded.now _ (counted_good _ _ (sym c.check_after.ensures.answer ∙ c.in_ok-n.was)) in
    (e.0, s.0, s.1, search rules)

pub returns : goal.returns
returns c =
    let a = c.args in
    let k = sym c.check_context.ensures.answer ∙ c.in_ok-v.was in
    let h = counted_good _ _ (sym c.check_after.ensures.answer ∙ c.in_ok-n.was) in
    answers_as a.counter (answer a.g a.loaded.now a.existing.now _ _ h k a.counter _) (tree a.g a.loaded.now a.existing.now _ _ h k)
    c.load_after.ensures
