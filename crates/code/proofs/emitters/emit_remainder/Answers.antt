use borrow.Author.Rules.{rules}
use Rattle.emit.proofs.Laws.{◌⨟◌}
use Rattle.code.proofs.Sizes.{plain_divide_kept}
use native.Mathlib.Omega.{arith}
use Rattle.code.proofs.emitters.emit_remainder.Goals as goal

pub restore-requires : goal.restore-requires
restore-requires c = let s = plain_divide_kept c.args.g c.args.w c.args.x c.args.y in (omega arith, search rules, search rules)

pub returns : goal.returns
returns c = c.divide_kept-q.ensures ⨟ c.restore.ensures
