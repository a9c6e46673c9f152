use Rattle.text.proofs.Putting.{at_most}
use native.Mathlib.Omega.{arith}
use Rattle.plan.proofs.messages.put_cause.Goals as goal

pub returns-in-NoSuchOrder : goal.returns-in-NoSuchOrder
returns-in-NoSuchOrder c = rw c.in-NoSuchOrder.is (at_most c.put_bytes.ensures (omega arith))

pub returns-in-NoSuchOperation : goal.returns-in-NoSuchOperation
returns-in-NoSuchOperation c = rw c.in-NoSuchOperation.is (at_most c.put_bytes-in-NoSuchOperation.ensures (omega arith))

pub returns-in-NotNumber : goal.returns-in-NotNumber
returns-in-NotNumber c = rw c.in-NotNumber.is (at_most c.put_bytes-in-NotNumber.ensures (omega arith))

pub returns-in-OutOfRange : goal.returns-in-OutOfRange
returns-in-OutOfRange c = rw c.in-OutOfRange.is (at_most c.put_bytes-in-OutOfRange.ensures (omega arith))

pub returns-in-NotTag : goal.returns-in-NotTag
returns-in-NotTag c = rw c.in-NotTag.is (at_most c.put_bytes-in-NotTag.ensures (omega arith))

pub returns-in-NotNewline : goal.returns-in-NotNewline
returns-in-NotNewline c = rw c.in-NotNewline.is (at_most c.put_bytes-in-NotNewline.ensures (omega arith))

pub returns-in-NotKind : goal.returns-in-NotKind
returns-in-NotKind c = rw c.in-NotKind.is (at_most c.put_bytes-in-NotKind.ensures (omega arith))

pub returns-in-TooManyKinds : goal.returns-in-TooManyKinds
returns-in-TooManyKinds c = rw c.in-TooManyKinds.is (at_most c.put_bytes-in-TooManyKinds.ensures (omega arith))

pub returns-in-MissingWord : goal.returns-in-MissingWord
returns-in-MissingWord c = rw c.in-MissingWord.is (at_most c.put_bytes-in-MissingWord.ensures (omega arith))

pub returns-in-SurplusWord : goal.returns-in-SurplusWord
returns-in-SurplusWord c = rw c.in-SurplusWord.is (at_most c.put_bytes-in-SurplusWord.ensures (omega arith))
