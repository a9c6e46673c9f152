use mathlib.Core.Path.{refl}
use native.Mathlib.Omega.{arith}
use Rattle.emit.proofs.Wrote.{room_for, not_written, wrote}
use Rattle.memory.specs.Blocks.{share_block}
use Rattle.memory.proofs.Sizes.{share_size}
use Rattle.memory.proofs.block.share_sized.Goals as goal

pub share-need-requires : goal.share-need-requires
share-need-requires c =
    let w = c.requires in
    (omega arith, omega arith, w.0, w.1)

pub grant-requires : goal.grant-requires
grant-requires c =
    let a = c.args in
    omega (arith, c.share-need.ensures.drawn, share_size a.g a.w a.n)

pub returns-in_err-written : goal.returns-in_err-written
returns-in_err-written c =
    let a = c.args in
    not_written (share_block a.g a.w a.n) a.counter c.share-need.ensures refl refl a.out.now c.grant.ensures c.in_err-written.was c.from_residual.ensures.1

pub share-requires : goal.share-requires
share-requires c =
    let a = c.args in
    let w = c.requires in
    let fit = room_for (share_block a.g a.w a.n) a.counter _ c.share-need.ensures refl refl c.grant.ensures c.in_ok-written.was in
    (omega arith, omega (arith, fit.0, (share_size a.g a.w a.n).0), w.0, w.1)

pub returns : goal.returns
returns c =
    let a = c.args in
    wrote (share_block a.g a.w a.n) a.counter c.share-need.ensures refl refl a.out.now c.grant.ensures c.in_ok-written.was c.share.ensures refl refl
