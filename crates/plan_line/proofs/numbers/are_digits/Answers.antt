use Rattle.std.proofs.Common.{rules}
use Rattle.plan_line.proofs.Digits.{digits_told}
use Rattle.plan_line.proofs.numbers.are_digits.Goals as goal

pub returns : goal.returns
returns c = digits_told c.args.w.now (search rules)
