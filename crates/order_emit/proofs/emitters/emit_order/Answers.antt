use native.Mathlib.Omega.{arith}
use Rattle.order_check.proofs.Asking.{put_fits, compute_fits, compute_there, copy_there, copy_asks, drop_there, drop_asks, store_there, store_fits, load_there, load_fits_lem, print_fits}
use Rattle.order_check.proofs.Leaving.{enough}
use Rattle.order_emit.proofs.Writing.{as_tree, put_tree, compute_tree, copy_tree, drop_tree, store_tree_lem, load_tree, print_tree}
use Rattle.order_emit.proofs.emitters.emit_order.Goals as goal

pub put-requires : goal.put-requires
put-requires c = let a = c.args in let w = c.requires in let s = a.context.now in let b = a.bindings.now in (put_fits s a.k b _ c.in-Put.is w.6 w.4, omega arith, w.6)

pub compute-requires : goal.compute-requires
compute-requires c = let a = c.args in let w = c.requires in let s = a.context.now in let b = a.bindings.now in let e = c.in-Compute.is in let t = compute_there s a.k b _ _ _ e w.3 in (compute_fits s a.k b _ _ _ e w.6 w.4, t.0, t.1, omega arith, w.6)

pub copy-requires : goal.copy-requires
copy-requires c = let a = c.args in let w = c.requires in let s = a.context.now in let b = a.bindings.now in let e = c.in-Copy.is in (w.0, copy_there s a.k b _ _ e w.3, copy_asks s a.k b _ _ e w.4, omega arith, omega (arith, w.5), w.6)

pub drop_last-requires : goal.drop_last-requires
drop_last-requires c = let a = c.args in let w = c.requires in let s = a.context.now in let b = a.bindings.now in let e = c.in-Drop.is in (w.0, drop_there s a.k b e w.3, drop_asks s a.k b e w.4, omega arith, omega (arith, w.5), w.6)

pub store-requires : goal.store-requires
store-requires c = let a = c.args in let w = c.requires in let s = a.context.now in let b = a.bindings.now in let e = c.in-Store.is in let l = store_there s a.k b _ _ e w.3 in let f = store_fits s a.k b _ _ e w.6 l w.4 in (w.0, l, f.0, f.1, omega arith, w.5, w.6)

pub overflow_sub-k : goal.overflow_sub-k
overflow_sub-k c = let a = c.args in let w = c.requires in let s = a.context.now in let b = a.bindings.now in omega (arith, load_there s a.k b _ c.in-Load.is w.3)

pub load_object-requires : goal.load_object-requires
load_object-requires c = let a = c.args in let w = c.requires in let s = a.context.now in let b = a.bindings.now in let e = c.in-Load.is in (enough a.k e _ w.2, load_fits_lem s a.k b _ e a.g w.4, omega arith, omega (arith, w.5), w.6)

pub print-requires : goal.print-requires
print-requires c = let a = c.args in let w = c.requires in let s = a.context.now in let b = a.bindings.now in (print_fits s a.k b _ _ c.in-Print.is w.6 w.4, w.0, w.1, omega arith, w.6)

pub returns-in-Put : goal.returns-in-Put
returns-in-Put c = let a = c.args in as_tree (put_tree a.g a.context.now a.k a.bindings.now _ c.in-Put.is) c.put.ensures

pub returns-in-Compute : goal.returns-in-Compute
returns-in-Compute c = let a = c.args in as_tree (compute_tree a.g a.context.now a.k a.bindings.now _ _ _ c.in-Compute.is) c.compute.ensures

pub returns-in-Copy : goal.returns-in-Copy
returns-in-Copy c = let a = c.args in as_tree (copy_tree a.g a.context.now a.k a.bindings.now _ _ c.in-Copy.is) c.copy.ensures

pub returns-in-Drop : goal.returns-in-Drop
returns-in-Drop c = let a = c.args in as_tree (drop_tree a.g a.context.now a.k a.bindings.now c.in-Drop.is) c.drop_last.ensures

pub returns-in-Store : goal.returns-in-Store
returns-in-Store c = let a = c.args in as_tree (store_tree_lem a.g a.context.now a.k a.bindings.now _ _ c.in-Store.is) c.store.ensures

pub returns-in-Load : goal.returns-in-Load
returns-in-Load c = let a = c.args in as_tree (load_tree a.g a.context.now a.k a.bindings.now _ c.in-Load.is) c.load_object.ensures

pub returns-in-Print : goal.returns-in-Print
returns-in-Print c = let a = c.args in as_tree (print_tree a.g a.context.now a.k a.bindings.now _ _ c.in-Print.is) c.print.ensures
