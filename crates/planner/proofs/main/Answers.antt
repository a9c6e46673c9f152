use Rattle.std.proofs.Common.{ℕ, sym}
use Rattle.std.proofs.lemmas.List.{length-replicate}
use Rattle.planner.proofs.main.Goals as goal

pub slice_bounds-write_plan-end-2 : goal.slice_bounds-write_plan-end-2
slice_bounds-write_plan-end-2 c = sym {b = 655360} (length-replicate {0} {A = ℕ} 655360 0)
