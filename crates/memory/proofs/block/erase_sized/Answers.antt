use mathlib.Core.Path.{refl}
use native.Mathlib.Omega.{arith}
use Rattle.emit.proofs.Wrote.{room_for, not_written, wrote}
use Rattle.memory.specs.Blocks.{erase_block}
use Rattle.memory.proofs.Sizes.{erase_size}
use Rattle.memory.proofs.block.erase_sized.Goals as goal

pub erase-need-requires : goal.erase-need-requires
erase-need-requires c =
    let w = c.requires in
    (omega arith, omega arith, w.0, w.1)

pub grant-requires : goal.grant-requires
grant-requires c =
    let a = c.args in
    omega (arith, c.erase-need.ensures.drawn, erase_size a.g a.w)

pub returns-in_err-written : goal.returns-in_err-written
returns-in_err-written c =
    let a = c.args in
    not_written (erase_block a.g a.w) a.counter c.erase-need.ensures refl refl a.out.now c.grant.ensures c.in_err-written.was c.from_residual.ensures.1

pub erase-requires : goal.erase-requires
erase-requires c =
    let a = c.args in
    let w = c.requires in
    let fit = room_for (erase_block a.g a.w) a.counter _ c.erase-need.ensures refl refl c.grant.ensures c.in_ok-written.was in
    (omega arith, omega (arith, fit.0, (erase_size a.g a.w).0), w.0, w.1)

pub returns : goal.returns
returns c =
    let a = c.args in
    wrote (erase_block a.g a.w) a.counter c.erase-need.ensures refl refl a.out.now c.grant.ensures c.in_ok-written.was c.erase.ensures refl refl
