use Rattle.plan_line.proofs.Same.{same_is_equal}
use Rattle.program_options.specs.Options.{one_of_two}
use Rattle.program_options.proofs.one_of_two.Goals as goal

pub returns-then-eq : goal.returns-then-eq
unfolding one_of_two
returns-then-eq c = let a = c.args in rw (same_is_equal a.word.now a.first.now, ← c.eq.ensures, c.if-eq.true)

pub returns-then-eq-2 : goal.returns-then-eq-2
unfolding one_of_two
returns-then-eq-2 c =
    let a = c.args in
    rw (same_is_equal a.word.now a.first.now, ← c.eq.ensures, c.if-eq.false, same_is_equal a.word.now a.second.now, ← c.eq-else-eq.ensures, c.if-eq-2.true)

pub returns-else-eq-2 : goal.returns-else-eq-2
unfolding one_of_two
returns-else-eq-2 c =
    let a = c.args in
    rw (same_is_equal a.word.now a.first.now, ← c.eq.ensures, c.if-eq.false, same_is_equal a.word.now a.second.now, ← c.eq-else-eq.ensures, c.if-eq-2.false)
