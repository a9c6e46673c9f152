use native.Mathlib.Omega.{arith}
use Rattle.report_state.proofs.Rows.{line_of}
use Rattle.report_state.proofs.variables.put_variable.Goals as goal

pub overflow_mul-place : goal.overflow_mul-place
overflow_mul-place c = let w = c.requires in omega (arith, w.1, w.5.frame)

pub word_at-pointer-requires : goal.word_at-pointer-requires
word_at-pointer-requires c = let w = c.requires in (w.2.registers, omega (arith, w.1, w.2.stack), w.3, omega (arith, w.1, w.5.frame))

pub overflow_mul-place-2 : goal.overflow_mul-place-2
overflow_mul-place-2 c = let w = c.requires in omega (arith, w.1, w.5.frame)

pub overflow_add-place : goal.overflow_add-place
overflow_add-place c = let w = c.requires in omega (arith, w.1, w.5.frame)

pub word_at-word-requires : goal.word_at-word-requires
word_at-word-requires c = let w = c.requires in (w.2.registers, omega (arith, w.1, w.2.stack), w.3, omega (arith, w.1, w.5.frame))

pub returns : goal.returns
returns c = line_of _ _ _ _ _ c.word_at-pointer.ensures c.word_at-word.ensures c.is_ext-ext.ensures c.put_cell.ensures
