use mathlib.Core.Path.{sym, ◌∙◌}
use Rattle.records.proofs.Answers.{answers_by}
use Rattle.records.proofs.CodesRead.{ok_code, starts_ok, part_code, part_bad, part_none}
use Rattle.records.proofs.code.read_code.Goals as goal

pub returns-then-s-k : goal.returns-then-s-k
returns-then-s-k c = answers_by (part_none _ _ c.if-s-k.true)

pub code_of-requires : goal.code_of-requires
code_of-requires c = rw c.fields_at.ensures (ok_code _ (starts_ok _ (sym c.code_starts.ensures ∙ c.if-code_starts.true)))

pub returns-then-code_starts : goal.returns-then-code_starts
returns-then-code_starts c = answers_by (part_code _ _ c.code_starts.ensures c.if-code_starts.true c.fields_at.ensures c.code_of.ensures)

pub returns-else-code_starts : goal.returns-else-code_starts
returns-else-code_starts c = answers_by (part_bad _ _ c.code_starts.ensures c.if-code_starts.false)
