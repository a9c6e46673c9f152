use native.Mathlib.Numerals.{towards_suc}
use native.Mathlib.Omega.{arith}
use lib.ListN.{length-set}
use Rattle.records.specs.Bytes.{le}
use Rattle.records.proofs.bytes.store4.Goals as goal

pub bounds-out-at-2 : goal.bounds-out-at-2
unfolding le
bounds-out-at-2 c = simp length-set (omega arith)

pub bounds-out-at-3 : goal.bounds-out-at-3
unfolding le
bounds-out-at-3 c = simp length-set (omega arith)

pub bounds-out-at-4 : goal.bounds-out-at-4
unfolding le
bounds-out-at-4 c = simp length-set (omega arith)

pub returns : goal.returns
unfolding le
returns c = simp towards_suc
