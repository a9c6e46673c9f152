use borrow.Author.Rules.{rules}
use native.Mathlib.Omega.{arith}
use Rattle.records.proofs.Answers.{answers_by}
use Rattle.layout.proofs.Placing.{no_field, field_at}
use Rattle.layout.proofs.config.field_offset_in.Goals as goal

pub returns-then-g-field : goal.returns-then-g-field
returns-then-g-field c = answers_by (no_field _ _ _ (omega arith))

pub returns-in-Fst : goal.returns-in-Fst
returns-in-Fst c = rw c.in-Fst.is (answers_by (field_at _ _ _ (omega arith) (search rules)))

pub returns-in-Snd : goal.returns-in-Snd
returns-in-Snd c = rw c.in-Snd.is (answers_by (field_at _ _ _ (omega arith) (search rules)))
