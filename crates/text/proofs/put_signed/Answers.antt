use native.Mathlib.Omega.{arith}
use Rattle.text.proofs.Digits.{puts_positive, puts_negative}
use Rattle.text.proofs.put_signed.Goals as goal

pub returns-then-v-lt-SIGN : goal.returns-then-v-lt-SIGN
returns-then-v-lt-SIGN c = puts_positive _ c.if-v-lt-SIGN.true c.put_decimal.ensures

pub returns : goal.returns
returns c = puts_negative _ c.if-v-lt-SIGN.false (omega arith) c.put_byte-next.ensures c.put_decimal-2.ensures
