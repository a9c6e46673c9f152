use Rattle.listing.proofs.Whole.{size, whole, kept}
use Rattle.listing.proofs.print_records.Goals as goal

pub returns-then-text-size : goal.returns-then-text-size
returns-then-text-size c = let p = c.put_printed-size.ensures in record { size = size p; bound = p.few; written = kept _ p c.if-text-size.true }

pub returns : goal.returns
returns c = let p = c.put_printed-size.ensures in let q = c.put_printed.ensures in record { size = size q; bound = q.few; written = whole _ p c.if-text-size.false q }
