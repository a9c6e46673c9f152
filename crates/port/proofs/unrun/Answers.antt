use mathlib.Core.Path.{sym, ◌∙◌}
use Rattle.port.proofs.Gives.{bad_heap, bad_record, no_frame}
use Rattle.port.proofs.unrun.Goals as goal

pub returns-then-not-heap_ok : goal.returns-then-not-heap_ok
returns-then-not-heap_ok c = bad_heap _ _ _ (sym c.heap_ok.ensures ∙ c.if-not-heap_ok.true)

pub returns-in-Err : goal.returns-in-Err
returns-in-Err c = bad_record _ _ _ (sym c.heap_ok.ensures ∙ c.if-not-heap_ok.false) (sym c.check_codes.ensures.answer ∙ c.in-Err.is)

pub returns-in-Ok : goal.returns-in-Ok
returns-in-Ok c = no_frame _ _ _ (sym c.heap_ok.ensures ∙ c.if-not-heap_ok.false) (sym c.check_codes.ensures.answer ∙ c.in-Ok.is)
