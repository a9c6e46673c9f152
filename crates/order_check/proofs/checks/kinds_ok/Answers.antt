use native.Mathlib.Omega.{arith}
use mathlib.Core.List.{[]}
use Rattle.order_check.proofs.Asking.{compute_there, load_there, print_there}
use Rattle.order_check.proofs.checks.kinds_ok.Goals as goal

pub is_ext-requires : goal.is_ext-requires
is_ext-requires c = let w = c.requires in let t = compute_there _ _ [] _ _ _ c.in-Compute.is (w.2 []) in omega (arith, w.0, t.0)

pub is_ext-requires-then-is_ext : goal.is_ext-requires-then-is_ext
is_ext-requires-then-is_ext c = let w = c.requires in let t = compute_there _ _ [] _ _ _ c.in-Compute.is (w.2 []) in omega (arith, w.0, t.1)

pub overflow_sub-k : goal.overflow_sub-k
overflow_sub-k c = let w = c.requires in omega (arith, load_there _ _ [] _ c.in-Load.is (w.2 []))

pub is_ext-requires-in-Load : goal.is_ext-requires-in-Load
is_ext-requires-in-Load c = let w = c.requires in omega (arith, w.0, load_there _ _ [] _ c.in-Load.is (w.2 []))

pub is_ext-requires-in-Print : goal.is_ext-requires-in-Print
is_ext-requires-in-Print c = let w = c.requires in omega (arith, w.0, print_there _ _ [] _ _ c.in-Print.is (w.2 []))
