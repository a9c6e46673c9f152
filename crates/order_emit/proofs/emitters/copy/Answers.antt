use mathlib.Core.Bool.{cond}
use native.Mathlib.Omega.{arith}
use Rattle.records.specs.Contexts.{ext_at}
use Rattle.trees.specs.Tree.{nop}
use Rattle.emit.proofs.Laws.{◌⨟◌}
use Rattle.memory.specs.Blocks.{share_block}
use Rattle.memory.specs.Objects.{fst}
use Rattle.order_check.proofs.Asking.{copies_fit, share_fits}
use Rattle.order_emit.proofs.Copying.{none_copied}
use Rattle.order_emit.proofs.Extent.{share_extent}
use Rattle.order_emit.proofs.emitters.copy.Goals as goal

pub share_linked-q-requires : goal.share_linked-q-requires
share_linked-q-requires c = let a = c.args in let w = c.requires in (rw c.is_ext-ext.ensures (share_fits w.5 (ext_at a.context.now a.a) a.a a.k a.n w.1 w.2), omega (arith, w.3), w.4, w.5)

pub returns-then-times-eq0 : goal.returns-then-times-eq0
returns-then-times-eq0 c = let a = c.args in let w = c.requires in rw (← c.is_ext-ext.ensures) (◌⨟◌ {t = cond c.is_ext-ext.result nop (share_block a.g (fst a.a) a.n)} c.share_linked-q.ensures (none_copied a.g c.is_ext-ext.result a.a a.k {n = a.n} c.if-times-eq0.true))

pub copy_to-requires : goal.copy_to-requires
copy_to-requires c = let a = c.args in let w = c.requires in let f = copies_fit w.5 (ext_at a.context.now a.a) a.a a.k a.n w.1 w.2 c.if-times-eq0.false in let z = share_extent a.g c.is_ext-ext.result (fst a.a) a.n in let d = c.share_linked-q.ensures in (omega (arith, w.1, f), f, omega (arith, d.place, z.1, w.3, w.5.frame, f), w.5)

pub returns : goal.returns
returns c = rw (← c.is_ext-ext.ensures) (c.share_linked-q.ensures ⨟ c.copy_to.ensures)
