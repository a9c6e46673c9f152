use mathlib.Core.Path.{sym, ◌∙◌}
use Prim.Native.Nat.{◌-◌}
use native.Mathlib.Omega.{arith}
use Rattle.emit.proofs.Laws.{emits_nop}
use Rattle.order_check.proofs.Asking.{linked_fits}
use Rattle.order_emit.proofs.emitters.drop_last.Goals as goal

pub returns-then-is_ext : goal.returns-then-is_ext
returns-then-is_ext c = rw (← c.is_ext.ensures, c.if-is_ext.true) emits_nop

pub location_of-w-requires : goal.location_of-w-requires
location_of-w-requires c = let w = c.requires in let g = linked_fits (c.args.k - 1) (sym c.is_ext.ensures ∙ c.if-is_ext.false) w.2 in (omega (arith, g, w.5.frame))

pub erase-requires : goal.erase-requires
erase-requires c = let w = c.requires in let g = linked_fits (c.args.k - 1) (sym c.is_ext.ensures ∙ c.if-is_ext.false) w.2 in (w.3, w.4, omega (arith, g, c.location_of-w.ensures.1), w.5)

pub returns : goal.returns
returns c = rw (← c.is_ext.ensures, c.if-is_ext.false, ← c.location_of-w.ensures.0) c.erase.ensures
