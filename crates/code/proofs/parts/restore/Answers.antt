use borrow.Author.Rules.{rules}
use mathlib.Core.Path.{refl}
use Rattle.records.specs.declared.code.Code.TheVariants.{MOV}
use Rattle.trees.specs.Tree.{leaf}
use Rattle.emit.proofs.Laws.{◌⨟◌, grown}
use Rattle.layout.specs.Config.{TEMP, RETURN1, RETURN2}
use Rattle.code.proofs.Sizes.{plain_move_from, plain_move_to}
use native.Mathlib.Omega.{arith}
use Rattle.code.proofs.parts.restore.Goals as goal

pub move_from_register-q2-requires : goal.move_from_register-q2-requires
move_from_register-q2-requires c = let s = plain_move_to c.args.g RETURN1 c.args.w in (omega arith, search rules, search rules)

pub emit-requires : goal.emit-requires
emit-requires c = let s = plain_move_to c.args.g RETURN1 c.args.w in let s' = plain_move_from c.args.g c.args.w RETURN2 in omega (arith, c.move_to_register-q1.ensures.place)

pub returns : goal.returns
returns c = c.move_to_register-q1.ensures ⨟ c.move_from_register-q2.ensures ⨟ grown (leaf (MOV RETURN2 TEMP) refl) c.emit.ensures refl refl
