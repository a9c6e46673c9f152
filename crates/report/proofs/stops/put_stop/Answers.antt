use native.Mathlib.Omega.{arith}
use Rattle.text.proofs.Putting.{at_most, ◌⨟◌}
use Rattle.report.specs.Stops.{stopped, stop_line}
use Rattle.report.proofs.stops.put_stop.Goals as goal

pub returns-in-Err-Malformed : goal.returns-in-Err-Malformed
unfolding stopped stop_line
returns-in-Err-Malformed c =
    let m = c.in-Err-Malformed in
    rw (m.is, rw m.is at m.field-0-is) (c.put_start-said.ensures ⨟ c.put_malformed-end.ensures ⨟ c.put_bytes.ensures)

pub returns-in-Err-Fault : goal.returns-in-Err-Fault
unfolding stopped stop_line
returns-in-Err-Fault c =
    let f = c.in-Err-Fault in
    rw (f.is, rw f.is at f.field-0-is)
    (at_most (c.put_start-said-in-Err-Fault.ensures ⨟ c.put_fault-end.ensures ⨟ c.put_bytes-in-Err-Fault.ensures) (omega arith))

pub returns-in-Err-Limit : goal.returns-in-Err-Limit
unfolding stopped stop_line
returns-in-Err-Limit c =
    let l = c.in-Err-Limit in
    rw (l.is, rw l.is at l.field-0-is)
    (at_most (c.put_start-said-in-Err-Limit.ensures ⨟ c.put_limit-end.ensures ⨟ c.put_bytes-in-Err-Limit.ensures) (omega arith))
