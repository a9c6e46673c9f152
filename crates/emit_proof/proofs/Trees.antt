-- What the operations of memory.rs, print_i64 and the orders write is read back.
use Rattle.records.specs.declared.context.Flaw.{Flaw}
use Rattle.std.specs.Prelude.{Ok, Err, Result}
use Prim.Native.Nat.{ℕ, ◌-◌}
use mathlib.Core.Path.{◌≡◌, sym, ap, subst, ◌∙◌}
use mathlib.Core.Bool.{Bool, true}
use mathlib.Core.List.{List}
use native.Mathlib.Omega.{arith}
use Rattle.records.specs.Contexts.{checked_context, ext_at, bindings_in}
use Rattle.records.specs.ReadBack.{Bytes}
use Rattle.records.proofs.Conditions.{never}
use Rattle.records.proofs.OrdersBack.{order_well_formed}
use Rattle.trees.specs.Tree.{Tree, flat}
use Rattle.emit.specs.Answers.{accepted}
use Rattle.layout.specs.declared.config.Shape.{Shape}
use Rattle.layout.specs.Config.{Supported}
use Rattle.memory.specs.Answered.{erase_answer, share_answer, store_tree, store_answer}
use Rattle.memory.specs.Blocks.{erase_block, share_block}
use Rattle.memory.specs.LoadAnswered.{load_tree, load_answer}
use Rattle.memory.specs.Objects.{ext_in, load_object}
use Rattle.memory.proofs.Sizes.{erase_size, share_size, store_object_size, object_size}
use Rattle.print_i64.specs.Print.{print_i64, print_answer, print_records}
use Rattle.print_i64.proofs.Sizes.{print_size}
use Rattle.order_spec.specs.Answered as order
use Rattle.order_spec.specs.Answered.{Asked, order_is, order_tree, answer_to}
use Rattle.order_spec.specs.Writes.{tree_of}
use Rattle.order_spec.proofs.Accepting.{taken, good_context}
use Rattle.order_formed_proof.proofs.Blocks.{formed_erase, formed_share}
use Rattle.order_formed_proof.proofs.Objects.{formed_store, formed_load}
use Rattle.order_formed_proof.proofs.Printing.{formed_print}
use Rattle.order_formed_proof.proofs.Orders.{order_formed, order_size}
use Rattle.order_formed_proof.proofs.Granting.{stored_most, loaded_most, erase_granted, share_granted, store_good, store_granted, load_good, load_granted}
use Rattle.emit_proof.specs.Claims.{Readable}
use Rattle.emit_proof.proofs.Lists.{tree_readable}

good_is : (context : List ℕ) (k : ℕ) → checked_context context ≡ Ok k → bindings_in (checked_context context) ≡ k
good_is context k e = ap bindings_in e

module _ (G : Shape) (sup : Supported G) where
  pub store_reads : (counter room : ℕ) (context : List ℕ) (n : ℕ) → accepted (store_answer G counter room context n) ≡ true
      → Readable (flat (store_tree G context n) counter)
  store_reads counter room context n e =
      let k = store_good G counter room context n e in
      let g = store_granted G counter room context k.0 n k.1 e in
      tree_readable (store_tree G context n) counter (formed_store G sup (ext_in context 0) (bindings_in (checked_context context) - n) n) g.2
      (omega (arith, (store_object_size G (ext_in context 0) sup (bindings_in (checked_context context) - n) n).1, stored_most G sup n k.0 g.0 g.1, sup.frame))

  pub load_reads : (counter room : ℕ) (loaded existing : List ℕ) → accepted (load_answer G counter room loaded existing) ≡ true
      → Readable (flat (load_tree G loaded existing) counter)
  load_reads counter room loaded existing e =
      let c = load_good G counter room loaded existing e in
      let v : ℕ = c.0 in
      let g = load_granted G counter room loaded existing v c.1 e in
      let n : ℕ = g.0 in
      let is : load_tree G loaded existing ≡ load_object G (ext_in loaded v) v n
      = ap (λ (j : ℕ). load_object G (ext_in loaded j) j (bindings_in (checked_context loaded))) (good_is existing v c.1)
      ∙ ap (load_object G (ext_in loaded v) v) (good_is loaded n g.1) in
      subst (λ (t : Tree). Readable (flat t counter)) (sym is)
      (tree_readable (load_object G (ext_in loaded v) v n) counter (formed_load G sup (ext_in loaded v) v n) g.3
      (omega (arith, (object_size G (ext_in loaded v) sup v n).1, loaded_most G sup v n g.2, sup.frame)))

  pub erase_reads : (counter room w : ℕ) → accepted (erase_answer G counter room w) ≡ true → Readable (flat (erase_block G w) counter)
  erase_reads counter room w e = tree_readable (erase_block G w) counter (formed_erase G sup w) (erase_granted G counter room w e) (omega (arith, (erase_size G w).1))

  pub share_reads : (counter room w n : ℕ) → accepted (share_answer G counter room w n) ≡ true → Readable (flat (share_block G w n) counter)
  share_reads counter room w n e =
      let g = share_granted G counter room w n e in
      tree_readable (share_block G w n) counter (formed_share G sup w (omega (arith, g.0))) g.1 (omega (arith, (share_size G w n).1))

  pub print_readable : (newline : Bool) (w : ℕ) (context : List ℕ) (n : ℕ) → Readable (print_records G newline w context (Ok n))
  print_readable newline w context n =
      let z = print_size G newline w (ext_at context) n in
      tree_readable (print_i64 G newline w (ext_at context) n) 0 (formed_print G sup newline w (ext_at context) n) (omega arith) (omega arith)

  pub print_reads : (room : ℕ) (newline : Bool) (w : ℕ) (context : List ℕ) (c : Result ℕ Flaw) → accepted (print_answer G room newline w context c) ≡ true
      → Readable (print_records G newline w context c)
  print_reads room newline w context (Ok n) e = print_readable newline w context n
  print_reads room newline w context (Err flaw) e = never e

  pub order_reads : (context : List ℕ) (q : Asked) → Bytes q.order → order.order_accepted (answer_to G context q) ≡ true
      → Readable (flat (order_tree G context q) q.counter)
  order_reads context q b e =
      let c = good_context G context q e in
      let k : ℕ = c.0 in
      let t = taken G context q k c.1 e in
      subst (λ (k : ℕ). Readable (flat (tree_of G context k q.bindings (order_is q)) q.counter)) (sym (good_is context k c.1))
      (tree_readable (tree_of G context k q.bindings (order_is q)) q.counter
      (order_formed G sup context k q.bindings (order_is q) (order_well_formed q.order t.starts b)) t.labelled
      (order_size G sup context k q.bindings (order_is q) t.there t.placed))
