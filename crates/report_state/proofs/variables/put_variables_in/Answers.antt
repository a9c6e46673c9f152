use mathlib.Core.Path.{sym, ◌∙◌}
use native.Mathlib.Omega.{arith}
use Rattle.records.proofs.ContextsRead.{context_within}
use Rattle.report_state.proofs.Rows.{of_bad, of_many, of_few}
use Rattle.report_state.proofs.variables.put_variables_in.Goals as goal

pub overflow_mul-count : goal.overflow_mul-count
overflow_mul-count c = let w = context_within _ _ (sym c.check_context.ensures.answer ∙ c.in-Ok.is) in omega arith

pub returns-then-limit-count : goal.returns-then-limit-count
returns-then-limit-count c = let a = c.args in of_many a.g a.context.now a.registers.now a.stack.now _ _ (sym c.check_context.ensures.answer ∙ c.in-Ok.is) c.if-limit-count.true

pub put_first-requires : goal.put_first-requires
put_first-requires c = let w = c.requires in let l = c.if-limit-count.false in let h = context_within _ _ (sym c.check_context.ensures.answer ∙ c.in-Ok.is) in (h.1, l, w.0, c.positions-table.ensures, omega (arith, w.1), w.2)

pub returns-in_default : goal.returns-in_default
returns-in_default c = let a = c.args in of_bad a.g a.context.now a.registers.now a.stack.now _ _ (sym c.check_context.ensures.answer ∙ c.in_default.is)

pub returns : goal.returns
returns c = let a = c.args in of_few a.g a.context.now a.registers.now a.stack.now _ _ (sym c.check_context.ensures.answer ∙ c.in-Ok.is) c.if-limit-count.false c.put_first.ensures
