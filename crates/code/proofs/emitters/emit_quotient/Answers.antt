use borrow.Author.Rules.{rules}
use mathlib.Core.Path.{refl}
use Rattle.records.specs.declared.code.Code.TheVariants.{MOV}
use Rattle.trees.specs.Tree.{leaf}
use Rattle.emit.proofs.Laws.{◌⨟◌, grown}
use Rattle.layout.specs.Config.{RETURN1, RETURN2}
use Rattle.code.proofs.Sizes.{plain_divide_kept}
use native.Mathlib.Omega.{arith}
use Rattle.code.proofs.emitters.emit_quotient.Goals as goal

pub emit-q2-requires : goal.emit-q2-requires
emit-q2-requires c = let s = plain_divide_kept c.args.g c.args.w c.args.x c.args.y in omega arith

pub restore-requires : goal.restore-requires
restore-requires c = let s = plain_divide_kept c.args.g c.args.w c.args.x c.args.y in (omega (arith, c.divide_kept-q1.ensures.place), search rules, search rules)

pub returns : goal.returns
returns c = c.divide_kept-q1.ensures ⨟ grown (leaf (MOV RETURN2 RETURN1) refl) c.emit-q2.ensures refl refl ⨟ c.restore.ensures
