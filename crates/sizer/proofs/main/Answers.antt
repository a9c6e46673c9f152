use Rattle.std.proofs.Common.{ℕ, sym}
use Rattle.std.proofs.lemmas.List.{length-replicate}
use Rattle.sizer.proofs.main.Goals as goal

pub slice_bounds-play_named-end : goal.slice_bounds-play_named-end
slice_bounds-play_named-end c = sym {b = 524288} (length-replicate {0} {A = ℕ} 524288 0)
