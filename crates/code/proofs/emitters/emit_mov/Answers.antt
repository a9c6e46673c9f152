use borrow.Author.Rules.{rules}
use Rattle.emit.proofs.Laws.{◌⨟◌}
use Rattle.layout.specs.Config.{TEMP}
use Rattle.code.proofs.Choices.{on_register, on_spill}
use Rattle.code.proofs.Sizes.{plain_move_to}
use native.Mathlib.Omega.{arith}
use Rattle.code.proofs.emitters.emit_mov.Goals as goal

pub returns-then-x-lt16 : goal.returns-then-x-lt16
returns-then-x-lt16 c = on_register _ _ c.if-x-lt16.true c.move_from_register.ensures

pub returns-then-w-lt16 : goal.returns-then-w-lt16
returns-then-w-lt16 c = on_spill _ _ c.if-x-lt16.false (on_register _ _ c.if-w-lt16.true c.move_to_register.ensures)

pub move_from_register-requires-2 : goal.move_from_register-requires-2
move_from_register-requires-2 c = let s = plain_move_to c.args.g TEMP c.args.x in (omega arith, search rules, search rules)

pub returns : goal.returns
returns c = on_spill _ _ c.if-x-lt16.false (on_spill _ _ c.if-w-lt16.false (c.move_to_register-q.ensures ⨟ c.move_from_register-2.ensures))
