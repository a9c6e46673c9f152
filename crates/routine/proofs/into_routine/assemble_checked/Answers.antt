use borrow.Author.Rules.{rules}
use mathlib.Core.Path.{refl}
use native.Mathlib.Omega.{arith}
use borrow.Author.Tests.{lt-ltb}
use Rattle.routine.proofs.Assembling.{handed_on, all_assembled, expected_answer, room_enough_lem}
use Rattle.routine.proofs.into_routine.assemble_checked.Goals as goal

pub returns-then-n-gt5 : goal.returns-then-n-gt5
returns-then-n-gt5 c = rw (lt-ltb 5 _ c.if-n-gt5.true) (record { answer = refl; cause = refl; bytes = refl })

pub returns-in_err-written : goal.returns-in_err-written
returns-in_err-written c = let a = c.args in handed_on (expected_answer a.g a.out.now a.n a.body.now c.grant.ensures (omega arith)) c.in_err-written.was c.from_residual.ensures.1

pub assemble-requires : goal.assemble-requires
assemble-requires c = let a = c.args in (omega arith, search rules, room_enough_lem a.g a.out.now a.n a.body.now c.grant.ensures c.in_ok-written.was, search rules)

pub returns : goal.returns
returns c = let a = c.args in all_assembled a.g a.n a.body.now (expected_answer a.g a.out.now a.n a.body.now c.grant.ensures (omega arith)) c.in_ok-written.was c.assemble.ensures
