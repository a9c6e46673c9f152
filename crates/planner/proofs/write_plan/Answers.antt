use Rattle.std.proofs.Common.{length, sym}
use Rattle.std.proofs.lemmas.List.{length-take-le}
use Rattle.plan.proofs.Texts.{written_fits}
use Rattle.planner.proofs.write_plan.Goals as goal

-- what was written has no more bytes than the records that were lent
pub slice_bounds-write-end : goal.slice_bounds-write-end
slice_bounds-write-end c = rw c.plan.auto.out (written_fits c.args.text.now (length c.args.records.now) (sym c.in-Ok.ensures.answer))

pub slice_bounds-write-end-in-Ok : goal.slice_bounds-write-end-in-Ok
slice_bounds-write-end-in-Ok c = sym (length-take-le _ _ (slice_bounds-write-end c))
