use borrow.Author.Rules.{rules}
use mathlib.Core.Path.{refl}
use Rattle.records.specs.declared.code.Code.TheVariants.{MOV}
use Rattle.trees.specs.Tree.{leaf}
use Rattle.emit.proofs.Laws.{◌⨟◌, grown}
use Rattle.layout.specs.Config.{TEMP, RETURN1, RETURN2}
use Rattle.code.proofs.Sizes.{plain_move_from, plain_move_to}
use native.Mathlib.Omega.{arith}
use Rattle.code.proofs.parts.divide_kept.Goals as goal

pub move_to_register-q3-requires : goal.move_to_register-q3-requires
move_to_register-q3-requires c = let s = plain_move_from c.args.g c.args.w RETURN1 in (omega arith, search rules, search rules)

pub divide-requires : goal.divide-requires
divide-requires c = let s = plain_move_from c.args.g c.args.w RETURN1 in let s' = plain_move_to c.args.g RETURN1 c.args.x in (omega (arith, c.emit-q1.ensures.place, c.move_from_register-q2.ensures.place), search rules, search rules)

pub returns : goal.returns
returns c = grown (leaf (MOV TEMP RETURN2) refl) c.emit-q1.ensures refl refl ⨟ c.move_from_register-q2.ensures ⨟ c.move_to_register-q3.ensures ⨟ c.divide.ensures
