use borrow.Author.Rules.{rules}
use mathlib.Core.Path.{sym, ◌∙◌}
use native.Mathlib.Omega.{arith}
use Rattle.layout.proofs.Placing.{shaped_supported, shape_stack}
use Rattle.text.proofs.Putting.{at_most}
use Rattle.report_state.proofs.Rows.{no_rows}
use Rattle.report_state.proofs.variables.put_variables.Goals as goal

pub put_variables_in-requires : goal.put_variables_in-requires
put_variables_in-requires c =
    let w = shape_stack _ _ _ (sym c.shape_on.ensures ∙ c.in-Ok.is) in
    let h = shaped_supported _ _ w.0 in
    (record { registers = search rules; stack = w.1 }, omega (arith, c.requires, h.frame), h)

pub returns-in-Ok : goal.returns-in-Ok
returns-in-Ok c =
    let e = sym c.shape_on.ensures ∙ c.in-Ok.is in
    let h = shaped_supported _ _ (shape_stack _ _ _ e).0 in
    rw e (at_most c.put_variables_in.ensures (omega (arith, h.frame)))

pub returns-in-Err : goal.returns-in-Err
returns-in-Err c = rw (sym c.shape_on.ensures ∙ c.in-Err.is) (no_rows c.in-Err.field-0 _ _ _ _)
