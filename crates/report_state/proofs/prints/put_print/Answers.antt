use borrow.Author.Rules.{rules}
use mathlib.Core.Path.{sym, ◌∙◌}
use native.Mathlib.Omega.{arith}
use Rattle.layout.proofs.Placing.{framed_supported, on_stack}
use Rattle.text.proofs.Putting.{nothing, at_most}
use Rattle.report_state.proofs.prints.put_print.Goals as goal

pub put_print_in-requires : goal.put_print_in-requires
put_print_in-requires c = let w = on_stack _ _ (sym c.frame_on.ensures ∙ c.in-Some.is) in (record { registers = search rules; stack = w.1 }, c.requires, framed_supported _ w.0)

pub returns-in-Some : goal.returns-in-Some
returns-in-Some c = rw (sym c.frame_on.ensures ∙ c.in-Some.is) c.put_print_in.ensures

pub returns-in-None : goal.returns-in-None
returns-in-None c = rw (sym c.frame_on.ensures ∙ c.in-None.is) (at_most (nothing _ _) (omega arith))
