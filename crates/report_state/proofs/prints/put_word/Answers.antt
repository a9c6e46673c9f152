use Rattle.report_state.proofs.prints.put_word.Goals as goal

pub word_at-word-requires : goal.word_at-word-requires
word_at-word-requires c = let w = c.requires in (w.0, w.1, c.positions-table.ensures, w.2)

pub returns : goal.returns
returns c = rw (← c.word_at-word.ensures) c.put_printed.ensures
