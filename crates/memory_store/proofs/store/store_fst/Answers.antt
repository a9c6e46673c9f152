use mathlib.Core.Path.{refl}
use Rattle.records.specs.declared.code.Code.TheVariants.{MOVIM}
use Rattle.emit.proofs.Laws.{grown}
use Rattle.trees.specs.Tree.{leaf}
use Rattle.layout.specs.Config.{HEAP}
use Rattle.memory_store.proofs.store.store_fst.Goals as goal

pub returns-then-ext : goal.returns-then-ext
returns-then-ext c = rw (c.if-ext.true, ← c.fst_offset-offset.ensures) (grown (leaf (MOVIM HEAP _ 0) refl) c.emit.ensures refl refl)

pub returns-else-ext : goal.returns-else-ext
returns-else-ext c = rw (c.if-ext.false, ← c.fst_offset-offset.ensures, ← c.location_of-w.ensures.0) c.store_field.ensures
