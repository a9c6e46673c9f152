-- The answer of an order that is read, by its checks in sequence, and what its two outputs hold.
use Rattle.std.specs.Prelude.{Ok, Err}
use Prim.Native.Nat.{ℕ, ◌+◌, ◌*◌, ◌/◌, ◌^◌, ◌≤◌, ◌<◌}
use mathlib.Core.Path.{◌≡◌, sym, ap, ◌∙◌, subst}
use mathlib.Core.Bool.{true, false}
use mathlib.Core.List.{List}
use native.Mathlib.Omega.{arith}
use lib.ListN.{length}
use lib.Seq.{sets}
use borrow.Author.Tests.{le-leb, lt-leb, le-ltb}
use Rattle.records.specs.Names.{last_label}
use Rattle.records.specs.Orders.{wanted}
use Rattle.records.proofs.ContextsRead.{context_within, context_long}
use Rattle.trees.specs.Tree.{labels, size, flat}
use Rattle.trees.proofs.Flat.{length_flat}
use Rattle.emit.specs.declared.cursor.Cursor.{Cursor}
use Rattle.emit.specs.Emitted.{Emits}
use Rattle.emit.proofs.Wrote.{written_whole}
use Rattle.layout.specs.declared.config.Shape.{Shape}
use Rattle.layout.specs.Config.{positions}
use Rattle.order_spec.specs.declared.answer.OrderRefusal.TheVariants.{Missing, Kind, Count, Position}
use Rattle.order_spec.specs.Writes.{count_ok, present, kinds_ok, asked}
use Rattle.order_spec.specs.Answered.{fitting, order_accepted, accepted_with, OrderAnswer}
use Rattle.order_spec.proofs.Accepting.{Fitted, fitted_if}
use Rattle.order_check.specs.After.{count_after}
use Rattle.order_check.proofs.Asking.{few_after}
use Rattle.order_check.proofs.Leaving.{after_long}
use Rattle.order_emit.proofs.Extent.{order_extent}
use Rattle.order.specs.declared.order.Work.{Work}
use Rattle.order.specs.Decided.{Writable, tree, after, fits, judged, LeavesOrder, Writes}

module _ {g : Shape} {context bindings : List ℕ} {w : Work} where
  -- a refusal leaves both outputs
  pub left_alone : {o c : List ℕ} {r expected : OrderAnswer} → r ≡ expected → order_accepted r ≡ false → LeavesOrder g context bindings w expected r o o c c
  left_alone e f = record { answer = e; records = rw (← e, f); context_then = rw (← e, f) }

  pub leaves_as : {o o' c c' : List ℕ} {r e e' : OrderAnswer} → e ≡ e' → LeavesOrder g context bindings w e r o o' c c' → LeavesOrder g context bindings w e' r o o' c c'
  leaves_as {o} {o'} {c} {c'} {r} p d = subst (λ (x : OrderAnswer). LeavesOrder g context bindings w x r o o' c c') p d

-- how much an order that may be written reads and writes
pub record Bounded (g : Shape) (context bindings : List ℕ) (w : Work) : Type 0 where
  pub few : w.k ≤ 4096
  pub context_whole : length context ≡ 8 * w.k
  pub bindings_whole : length bindings ≡ 8 * wanted w.order
  pub few_labels : labels (tree g context bindings w) ≤ 3000
  pub few_after : count_after w.k w.order < 2 ^ 32
  pub after_whole : length (after g context bindings w) ≡ 8 * count_after w.k w.order

module _ {g : Shape} {context bindings : List ℕ} {w : Work} (ok : Writable g context bindings w) where
  pub bounded : Bounded g context bindings w
  bounded =
      let c = context_long context _ ok.context_good in
      let b = context_long bindings _ ok.bindings_good in
      let n = (context_within context _ ok.context_good).0 in
      record {
        few = n;
        context_whole = c;
        bindings_whole = b;
        few_labels = (order_extent ok.supported context w.k bindings w.order ok.there ok.placed).0;
        few_after = omega (arith, few_after ok.supported context w.k bindings w.order ok.there ok.placed, ok.supported.frame);
        after_whole = after_long context w.k bindings w.order c b;
      }

  module _ (room context_room : ℕ) {r : OrderAnswer} where
    -- a first pass on another output tells the records' size, and the count of bindings their bytes
    pub as_fits : {o o' : List ℕ} {need : Cursor} {count : ℕ} → Emits o (record { at = 0; counter = 0 }) o' need (tree g context bindings w) → count ≡ count_after w.k w.order
        → r ≡ fitting w.counter room context_room (need.at / 24) need.counter (8 * count) → r ≡ fits g context bindings w room context_room
    unfolding fits
    as_fits {need = need} {count = count} d n e =
        let s : need.at / 24 ≡ size (tree g context bindings w) = omega (arith, d.place) in
        let l : need.counter ≡ labels (tree g context bindings w) = omega (arith, d.drawn) in
        let m : 8 * count ≡ length (after g context bindings w) = omega (arith, bounded.after_whole) in
        e ∙ rw (s, l, m)

    pub all_fit : r ≡ fits g context bindings w room context_room → order_accepted r ≡ true
        → Fitted w.counter room context_room (size (tree g context bindings w)) (labels (tree g context bindings w)) (length (after g context bindings w))
    unfolding fits
    all_fit e accepted = fitted_if _ _ _ _ _ _ (ap order_accepted (sym e) ∙ accepted)

  module _ (room context_room : ℕ) where
    -- an order that wants neither labels nor room, from what its one pass left
    pub at_once : {o o' : List ℕ} {q : Cursor} {count : ℕ} → Emits o (record { at = 0; counter = w.counter }) o' q (tree g context bindings w) → count ≡ count_after w.k w.order
        → w.counter + labels (tree g context bindings w) ≤ last_label → 24 * size (tree g context bindings w) ≤ room → 8 * count ≤ context_room
        → Ok (accepted_with (q.at / 24) q.counter count) ≡ fits g context bindings w room context_room
    unfolding fits
    at_once {q = q} {count = count} d n labelled fit after-fit =
        let t = tree g context bindings w in
        let s : q.at / 24 ≡ size t = omega (arith, d.place) in
        let m : length (after g context bindings w) ≡ 8 * count = omega (arith, bounded.after_whole) in
        let k : 8 * count / 8 ≡ count = omega arith in
        rw (s, d.drawn, m, k, le-ltb last_label (w.counter + labels t) labelled, le-ltb room (24 * size t) fit, le-ltb context_room (8 * count) after-fit)

  -- an accepted order's records and the context after it
  pub all_written : {r : OrderAnswer} {o o' c c' : List ℕ} {q : Cursor} → r ≡ fits g context bindings w (length o) (length c) → order_accepted r ≡ true
      → Emits o (record { at = 0; counter = w.counter }) o' q (tree g context bindings w) → c' ≡ sets c 0 (after g context bindings w) → Writes g context bindings w r o o' c c'
  all_written {o = o} {c = c} e accepted d v =
      let l = length_flat (tree g context bindings w) w.counter 0 in
      let h = (all_fit (length o) (length c) e accepted).records_fit in
      record {
        answer = e;
        records = d.bytes ∙ rw (← e, accepted) (written_whole (flat (tree g context bindings w) w.counter) o 0 (omega arith));
        context_then = v ∙ rw (← e, accepted);
      }

-- the checks from 4 to 8
module _ (g : Shape) (c b : List ℕ) (w : Work) (room context_room : ℕ) where
  pub missing : present c w.k b w.order ≡ false → Err Missing ≡ judged g c b w room context_room
  unfolding judged
  missing e = rw e

  module _ (p : present c w.k b w.order ≡ true) where
    pub wrong_kind : kinds_ok c w.k b w.order ≡ false → Err Kind ≡ judged g c b w room context_room
    unfolding judged
    wrong_kind e = rw (p, e)

    module _ (s : kinds_ok c w.k b w.order ≡ true) where
      pub too_often : count_ok w.order ≡ false → Err Count ≡ judged g c b w room context_room
      unfolding judged
      too_often e = rw (p, s, e)

      module _ (n : count_ok w.order ≡ true) where
        pub no_position : positions g < asked c w.k b w.order → Err Position ≡ judged g c b w room context_room
        unfolding judged
        no_position h = rw (p, s, n, lt-leb (asked c w.k b w.order) (positions g) h)

        pub all_judged : asked c w.k b w.order ≤ positions g → fits g c b w room context_room ≡ judged g c b w room context_room
        unfolding judged
        all_judged h = rw (p, s, n, le-leb (asked c w.k b w.order) (positions g) h)
