use Rattle.text.proofs.Digits.{puts_none, puts_one, puts_more}
use Rattle.text.proofs.+put_digits.Goals as goal

pub returns-then-most-eq0 : goal.returns-then-most-eq0
returns-then-most-eq0 t c = puts_none _ _ c.if-most-eq0.true

pub returns-then-v-lt10 : goal.returns-then-v-lt10
returns-then-v-lt10 t c = puts_one _ _ c.if-most-eq0.false c.if-v-lt10.true c.put_byte.ensures

pub returns : goal.returns
returns t c = puts_more _ _ c.if-most-eq0.false c.if-v-lt10.false c.put_digits-next.ensures c.put_byte-2.ensures
