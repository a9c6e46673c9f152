use native.Mathlib.Omega.{arith}
use borrow.Author.Tests.{ne_eqb}
use Rattle.memory_bounds.proofs.StoreSizes.{store_none_lem}
use Rattle.memory_bounds.proofs.Linked.{some_records}
use Rattle.memory_bounds.proofs.store_most.Goals as goal

pub returns-then-n-eq0 : goal.returns-then-n-eq0
returns-then-n-eq0 c = (store_none_lem c.args.g c.args.v c.args.n c.if-n-eq0.true, omega arith)

pub values_records-values-requires : goal.values_records-values-requires
values_records-values-requires c = (omega (arith, c.saturating_sub-rest.ensures), omega (arith, c.requires.1.few), omega (arith, c.saturating_sub-rest.ensures, c.requires.0))

pub other_blocks-m-requires : goal.other_blocks-m-requires
other_blocks-m-requires c = (omega (arith, c.saturating_sub-rest.ensures, c.requires.0), c.requires.1)

pub others_records-requires : goal.others_records-requires
others_records-requires c = (c.other_blocks-m.ensures.1, omega (arith, c.saturating_sub-rest.ensures, c.requires.0), c.requires.1)

pub overflow_add-result-4 : goal.overflow_add-result-4
overflow_add-result-4 c = omega (arith, c.others_records.ensures.1, c.other_blocks-m.ensures.1, c.values_records-values.ensures.1, c.word_records-pointer.ensures.1, c.requires.1.few)

pub returns : goal.returns
returns c =
    let a = c.args in
    let all = some_records a.g c.other_blocks-m.result a.v a.n c.saturating_sub-rest.ensures c.other_blocks-m.ensures.0 c.values_records-values.ensures.0 c.word_records-pointer.ensures.0 c.others_records.ensures.0 in (
      rw (ne_eqb a.n 0 c.if-n-eq0.false) (omega (arith, all)),
      omega (arith, c.others_records.ensures.1, c.other_blocks-m.ensures.1, c.values_records-values.ensures.1, c.word_records-pointer.ensures.1, c.requires.1.few),
    )
