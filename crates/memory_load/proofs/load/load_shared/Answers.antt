use mathlib.Core.Path.{refl}
use native.Mathlib.Omega.{arith}
use Rattle.records.specs.declared.code.Code.TheVariants.{ADDIM}
use Rattle.emit.proofs.Laws.{◌⨟◌, grown}
use Rattle.trees.specs.Tree.{leaf}
use Rattle.layout.specs.Config.{MINUSONE}
use Rattle.memory_load.proofs.load.load_shared.Goals as goal

pub load_some-requires : goal.load_some-requires
load_some-requires c = let w = c.requires in let e = c.emit-q.ensures in (omega arith, omega (arith, w.0), w.1, omega (arith, w.2, e.place), omega (arith, w.3, e.drawn), w.4)

pub returns : goal.returns
returns c = grown (leaf (ADDIM _ 0 MINUSONE) refl) c.emit-q.ensures refl refl ⨟ c.load_some.ensures
