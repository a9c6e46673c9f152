use borrow.Author.Rules.{rules}
use mathlib.Core.Path.{refl, sym, ◌∙◌}
use Rattle.emit.proofs.Wrote.{handed_on}
use Rattle.memory.specs.Answered.{store_answer}
use Rattle.memory_store.proofs.store.store_in.Goals as goal

pub returns-in_err-k : goal.returns-in_err-k
unfolding store_answer
returns-in_err-k c = rw (sym c.check_context.ensures.answer ∙ c.in_err-k.was) (handed_on refl refl c.from_residual.ensures.1)

pub store_last-requires : goal.store_last-requires
store_last-requires c = (sym c.check_context.ensures.answer ∙ c.in_ok-k.was, search rules)

pub returns : goal.returns
returns c = c.store_last.ensures
