use borrow.Author.Rules.{rules}
use Rattle.emit.proofs.Laws.{◌⨟◌}
use Rattle.layout.specs.Config.{TEMP}
use Rattle.code.proofs.Sizes.{plain_into_register}
use native.Mathlib.Omega.{arith}
use Rattle.code.proofs.parts.through_temp.Goals as goal

pub move_from_register-requires : goal.move_from_register-requires
move_from_register-requires c = let s = plain_into_register c.args.g c.args.n TEMP c.args.x c.args.y in (omega arith, search rules, search rules)

pub returns : goal.returns
returns c = c.into_register-q.ensures ⨟ c.move_from_register.ensures
