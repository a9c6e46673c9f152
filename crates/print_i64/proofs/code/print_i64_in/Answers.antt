use borrow.Author.Rules.{rules}
use mathlib.Core.Path.{refl, sym, ◌∙◌}
use Rattle.records.proofs.ContextsRead.{context_within}
use Rattle.emit.proofs.Wrote.{handed_on}
use Rattle.print_i64.proofs.code.print_i64_in.Goals as goal

pub returns-in_err-n : goal.returns-in_err-n
returns-in_err-n c = rw (sym c.check_context.ensures.answer ∙ c.in_err-n.was) (handed_on refl refl c.from_residual.ensures.1)

pub print_checked-requires : goal.print_checked-requires
print_checked-requires c = let w = context_within c.args.context.now _ (sym c.check_context.ensures.answer ∙ c.in_ok-n.was) in (w.1, w.0, search rules)

pub returns : goal.returns
returns c = rw (sym c.check_context.ensures.answer ∙ c.in_ok-n.was) c.print_checked.ensures
