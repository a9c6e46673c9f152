use native.Mathlib.Numerals.{towards_suc}
use native.Mathlib.Omega.{arith}
use lib.ListN.{length-set}
use Rattle.records.specs.Bytes.{le}
use Rattle.records.proofs.bytes.store8.Goals as goal

pub bounds-out-at-2 : goal.bounds-out-at-2
unfolding le
bounds-out-at-2 c = simp length-set (omega arith)

pub bounds-out-at-3 : goal.bounds-out-at-3
unfolding le
bounds-out-at-3 c = simp length-set (omega arith)

pub bounds-out-at-4 : goal.bounds-out-at-4
unfolding le
bounds-out-at-4 c = simp length-set (omega arith)

pub bounds-out-at-5 : goal.bounds-out-at-5
unfolding le
bounds-out-at-5 c = simp length-set (omega arith)

pub bounds-out-at-6 : goal.bounds-out-at-6
unfolding le
bounds-out-at-6 c = simp length-set (omega arith)

pub bounds-out-at-7 : goal.bounds-out-at-7
unfolding le
bounds-out-at-7 c = simp length-set (omega arith)

pub bounds-out-at-8 : goal.bounds-out-at-8
unfolding le
bounds-out-at-8 c = simp length-set (omega arith)

pub shape_of-out : goal.shape_of-out
unfolding le
shape_of-out c = simp length-set

pub returns : goal.returns
unfolding le
returns c = simp towards_suc
