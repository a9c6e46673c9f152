use native.Mathlib.Omega.{arith}
use mathlib.Core.List.{[]}
use Rattle.order_check.proofs.Asking.{copy_there, drop_there, load_there}
use Rattle.order_check.proofs.checks.asked.Goals as goal

pub asked_copy-requires : goal.asked_copy-requires
asked_copy-requires c = let w = c.requires in let t = copy_there _ _ [] _ _ c.in-Copy.is (w.2 []) in (omega (arith, w.0, t), omega (arith, w.1, t), w.1, omega arith)

pub overflow_sub-k : goal.overflow_sub-k
overflow_sub-k c = omega (arith, drop_there _ _ [] c.in-Drop.is (c.requires.2 []))

pub asked_linked-requires : goal.asked_linked-requires
asked_linked-requires c = let w = c.requires in let t = drop_there _ _ [] c.in-Drop.is (w.2 []) in (omega (arith, w.0, t), omega (arith, w.1, t))

pub overflow_sub-k-in-Load : goal.overflow_sub-k-in-Load
overflow_sub-k-in-Load c = omega (arith, load_there _ _ [] _ c.in-Load.is (c.requires.2 []))
