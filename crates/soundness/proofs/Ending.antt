-- A tree that does something ends as a run of its records' bytes, with their number as the step limit.
use Rattle.std.specs.Prelude.{Ok}
use mathlib.Core.Bool.{true}
use mathlib.Core.Path.{◌≡◌, sym, ◌∙◌, ap}
use Prim.Native.Nat.{ℕ, ◌+◌, ◌*◌, ◌/◌, ◌%◌, ◌≤◌}
use native.Mathlib.Nat.{add-zero, mul-div_cancel_left, div-add-mod}
use native.Mathlib.Omega.{arith}
use borrow.Author.Tests.{le-leb}
use Rattle.records.specs.ReadBack.{joined, code_bytes}
use Rattle.records.specs.Names.{last_label}
use Rattle.layout.specs.declared.config.Shape.{Shape}
use Rattle.layout.specs.Config.{block_words}
use Rattle.trees.specs.Tree.{Tree, labels, size, flat}
use Rattle.machine_step.specs.Memory.{heap_ok}
use Rattle.machine_step.specs.Step.{Config}
use Rattle.machine_step.specs.View.{View}
use Rattle.machine.specs.Run.{done, ran, started, starting}
use Rattle.trees_proof.specs.Evaluation.{evaluate}
use Rattle.trees_proof.specs.Evaluation as evaluation
use Rattle.trees_proof.proofs.Trees.{tree_ends}
use Rattle.layout_proof.specs.Held.{Placed}
use Rattle.layout_proof.proofs.Runs.{Does}
use Rattle.order_formed_proof.proofs.Formed.{Formed}
use Rattle.order_formed_proof.proofs.Bytes.{ran_started}

module _ (G : Shape) where
  pub heap_ok_lem : (blocks : ℕ) (v : View) → Placed G blocks (starting v) → 2 ≤ blocks → heap_ok (block_words G) v.size ≡ true
  unfolding heap_ok
  heap_ok_lem blocks v p h =
      let q : (block_words G * blocks) / block_words G ≡ blocks = mul-div_cancel_left blocks (omega arith) in
      let d = rw q at (div-add-mod (block_words G * blocks) (block_words G)) in
      let a : (block_words G * blocks) % block_words G ≡ 0 = omega arith in
      rw (p.words, le-leb 1 (block_words G) (omega arith), a, q, le-leb 2 blocks h, le-leb blocks 1048576 p.fits)

  pub record Ends (words : ℕ → ℕ) (t : Tree) (counter : ℕ) (v : View) (Q : Config → Type 0) : Type 0 where
    pub steps : ℕ
    pub within : steps ≤ size t
    pub last : Config
    pub tree : evaluate words t (starting v) ≡ evaluation.done last
    pub run : ran (block_words G) words (joined code_bytes (flat t counter)) (size t) v ≡ done (Ok steps) last
    pub post : Q last

  pub ends : {words : ℕ → ℕ} {t : Tree} {v : View} {Q : Config → Type 0} (counter : ℕ) → Formed t → counter + labels t ≤ last_label → size t ≤ 65536 → heap_ok (block_words G) v.size ≡ true
      → Does words t (starting v) Q → Ends words t counter v Q
  ends {words} {t} {v} counter f l m h d =
      let e = tree_ends words t counter 0 v d.to d.run in
      record {
        steps = e.0;
        within = e.1;
        last = d.to;
        tree = d.run;
        run = ran_started (block_words G) words t counter (size t) v f l m h ∙ ap (λ (n : ℕ). started words (flat t counter) n v) (sym (add-zero (size t))) ∙ e.2;
        post = d.post;
      }
