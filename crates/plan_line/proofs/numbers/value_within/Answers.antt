use mathlib.Core.Path.{refl, ◌∙◌}
use Rattle.plan_line.proofs.Digits.{value_on, too_large, in_range, out_of_range}
use native.Mathlib.Omega.{arith}
use Rattle.plan_line.proofs.numbers.value_within.Goals as goal

pub loop-b-init : goal.loop-b-init
loop-b-init c = (omega arith, refl)

pub returns-then-limit-value : goal.returns-then-limit-value
returns-then-limit-value c = too_large c.args.w.now c.loop-b.b-index c.loop-b.value c.args.limit c.loop-b.invariant.1 (omega arith) c.if-limit-value.true

pub overflow_add-value : goal.overflow_add-value
overflow_add-value c = omega (arith, c.type_inv.w c.loop-b.b-index)

pub loop-b-preserved : goal.loop-b-preserved
loop-b-preserved c = (omega (arith, c.type_inv.w c.loop-b.b-index), c.loop-b.invariant.1 ∙ (rw c.digit_value.ensures (value_on c.args.w.now c.loop-b.b-index c.loop-b.value (omega arith))))

pub returns-then-value-limit : goal.returns-then-value-limit
returns-then-value-limit c = in_range c.args.w.now c.loop-b.b-index c.loop-b.value c.args.limit c.loop-b.invariant.1 (omega arith) c.if-value-limit.true

pub returns-else-value-limit : goal.returns-else-value-limit
returns-else-value-limit c = out_of_range c.args.w.now c.loop-b.b-index c.loop-b.value c.args.limit c.loop-b.invariant.1 (omega arith) c.if-value-limit.false
