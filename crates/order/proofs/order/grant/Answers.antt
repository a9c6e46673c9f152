use native.Mathlib.Omega.{arith}
use Prim.Native.Nat.{◌+◌, ◌*◌, ◌/◌}
use mathlib.Core.Path.{◌≡◌}
use borrow.Author.Tests.{lt-ltb, le-ltb}
use Rattle.records.specs.Names.{last_label}
use Rattle.order.proofs.order.grant.Goals as goal

pub returns-then-counter-gt-LAST_LABEL : goal.returns-then-counter-gt-LAST_LABEL
returns-then-counter-gt-LAST_LABEL c = let a = c.args in rw (lt-ltb last_label (a.counter + a.need.counter) (omega arith))

pub returns-then-drawn-gt-LAST_LABEL : goal.returns-then-drawn-gt-LAST_LABEL
returns-then-drawn-gt-LAST_LABEL c = rw (lt-ltb _ _ c.if-drawn-gt-LAST_LABEL.true)

pub returns-then-room-need : goal.returns-then-room-need
returns-then-room-need c = let same_bytes : 24 * (c.args.need.at / 24) ≡ c.args.need.at = omega arith in rw (le-ltb _ _ c.if-drawn-gt-LAST_LABEL.false, same_bytes, lt-ltb _ _ c.if-room-need.true)

pub returns-then-context_room-bytes : goal.returns-then-context_room-bytes
returns-then-context_room-bytes c = let same_bytes : 24 * (c.args.need.at / 24) ≡ c.args.need.at = omega arith in rw (le-ltb _ _ c.if-drawn-gt-LAST_LABEL.false, same_bytes, le-ltb _ _ c.if-room-need.false, lt-ltb _ _ c.if-context_room-bytes.true)

pub returns : goal.returns
returns c =
    let same_bytes : 24 * (c.args.need.at / 24) ≡ c.args.need.at = omega arith in let m : 8 * c.args.count / 8 ≡ c.args.count = omega arith in
    rw (le-ltb _ _ c.if-drawn-gt-LAST_LABEL.false, same_bytes, le-ltb _ _ c.if-room-need.false, le-ltb _ _ c.if-context_room-bytes.false, m)
