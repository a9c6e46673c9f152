use borrow.Author.Rules.{rules}
use mathlib.Core.Path.{refl, sym, ◌∙◌}
use native.Mathlib.Omega.{arith}
use lib.ListN.{take}
use Rattle.records.proofs.Copying.{next_byte, no_byte, copied}
use Rattle.records.proofs.bytes.copy_bytes.Goals as goal

pub loop-i-init : goal.loop-i-init
loop-i-init c = let a = c.args in (omega arith, refl, no_byte a.out.now (take a.count a.from.now) a.at)

pub loop-i-preserved : goal.loop-i-preserved
loop-i-preserved c = let l = c.loop-i in let a = c.args in (omega arith, search rules, sym (next_byte l.out a.from.now a.at l.i a.count (omega arith) (omega (arith, c.requires.0))) ∙ l.invariant.2)

pub returns : goal.returns
returns c = let l = c.loop-i in let a = c.args in copied l.out a.from.now _ a.at a.count {i = l.i} (omega arith) (omega (arith, c.requires.0)) l.invariant.2
