use borrow.Author.Rules.{rules}
use Rattle.emit.proofs.Laws.{◌⨟◌}
use Rattle.code.proofs.Sizes.{plain_move_to}
use native.Mathlib.Omega.{arith}
use Rattle.code.proofs.parts.into_register.Goals as goal

pub op_to_register-requires : goal.op_to_register-requires
op_to_register-requires c = let s = plain_move_to c.args.g c.args.r c.args.x in (omega arith, search rules, search rules)

pub returns : goal.returns
returns c = c.move_to_register-q.ensures ⨟ c.op_to_register.ensures
