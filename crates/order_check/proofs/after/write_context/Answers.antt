use native.Mathlib.Omega.{arith}
use mathlib.Core.Path.{ap, ◌∙◌}
use lib.Seq.{sets}
use Rattle.order_check.proofs.Asking.{copy_there, drop_there, store_there, load_there}
use Rattle.order_check.proofs.Leaving.{put_left, compute_left, copy_left, drop_left, store_left, load_left, print_left}
use Rattle.order_check.proofs.after.write_context.Goals as goal

pub kind_at-kind-requires : goal.kind_at-kind-requires
kind_at-kind-requires c = let a = c.args in let w = c.requires in omega (arith, w.0, copy_there a.context.now a.k a.bindings.now _ _ c.in-Copy.is w.3)

pub overflow_sub-k : goal.overflow_sub-k
overflow_sub-k c = let a = c.args in let w = c.requires in omega (arith, drop_there a.context.now a.k a.bindings.now c.in-Drop.is w.3)

pub overflow_sub-k-in-Store : goal.overflow_sub-k-in-Store
overflow_sub-k-in-Store c = let a = c.args in let w = c.requires in omega (arith, store_there a.context.now a.k a.bindings.now _ _ c.in-Store.is w.3)

pub overflow_sub-k-in-Load : goal.overflow_sub-k-in-Load
overflow_sub-k-in-Load c = let a = c.args in let w = c.requires in omega (arith, load_there a.context.now a.k a.bindings.now _ c.in-Load.is w.3)

pub returns-in-Put : goal.returns-in-Put
returns-in-Put c = let a = c.args in c.keep_and_make.ensures ∙ ap (sets a.out.now 0) (put_left a.context.now a.k a.bindings.now c.requires.0 _ c.in-Put.is)

pub returns-in-Compute : goal.returns-in-Compute
returns-in-Compute c = let a = c.args in c.keep_and_make-in-Compute.ensures ∙ ap (sets a.out.now 0) (compute_left a.context.now a.k a.bindings.now c.requires.0 _ _ _ c.in-Compute.is)

pub returns-in-Copy : goal.returns-in-Copy
returns-in-Copy c = let a = c.args in c.keep_and_make-in-Copy.ensures ∙ ap (sets a.out.now 0) (copy_left a.context.now a.k a.bindings.now c.requires.0 _ _ c.in-Copy.is c.kind_at-kind.ensures)

pub returns-in-Drop : goal.returns-in-Drop
returns-in-Drop c = let a = c.args in c.keep_and_make-in-Drop.ensures ∙ ap (sets a.out.now 0) (drop_left a.context.now a.k a.bindings.now c.in-Drop.is)

pub returns-in-Store : goal.returns-in-Store
returns-in-Store c = let a = c.args in c.keep_and_make-in-Store.ensures ∙ ap (sets a.out.now 0) (store_left a.context.now a.k a.bindings.now _ _ c.in-Store.is)

pub returns-in-Load : goal.returns-in-Load
returns-in-Load c = let a = c.args in c.keep_and_bring.ensures ∙ ap (sets a.out.now 0) (load_left a.context.now a.k a.bindings.now _ c.in-Load.is)

pub returns-in-Print : goal.returns-in-Print
returns-in-Print c = let a = c.args in c.keep_and_make-in-Print.ensures ∙ ap (sets a.out.now 0) (print_left a.context.now a.k a.bindings.now c.requires.0 _ _ c.in-Print.is)
