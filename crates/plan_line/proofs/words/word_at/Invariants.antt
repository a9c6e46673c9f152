use Rattle.std.proofs.Common.{◌≡◌, ◌≤◌, length, drop}
use Rattle.plan_line.specs.Words.{words_in}
use Rattle.plan_line.proofs.words.word_at.Given as goal

abbrev pub invariant-loop : goal.invariant-loop
invariant-loop l = (l.at ≤ length l.line) × (drop l.counter (words_in l.line) ≡ words_in (drop l.at l.line))
