-- The bytes of the records of the operations without jumps, run alone, do what the operations' trees do.
use Prim.Native.Nat.{ℕ, ◌*◌, ◌/◌, ◌%◌, ◌≤◌}
use mathlib.Core.Path.{◌≡◌, refl, subst}
use mathlib.Core.Bool.{true, ◌&&◌}
use mathlib.Core.List.{List}
use native.Mathlib.Nat.{add-zero, div-add-mod}
use native.Mathlib.Omega.{arith}
use lib.Dec.{leb, eqb}
use lib.ListN.{length}
use borrow.Author.Tests.{eqb-true, leb-true}
use Rattle.records.specs.declared.code.Code.{Code}
use Rattle.records.specs.ReadBack.{joined, code_bytes}
use Rattle.records.proofs.Conditions.{both}
use Rattle.trees.specs.Tree.{Tree, size, flat}
use Rattle.trees.proofs.Flat.{length_flat}
use Rattle.layout.specs.declared.config.Shape.{Shape}
use Rattle.layout.specs.Config.{Supported, block_words}
use Rattle.code.specs.Code.{load_immediate, mov_tree, arithmetic}
use Rattle.operations.specs.declared.operation.Operation.TheVariants.{LoadImmediate, Arithmetic, Mov}
use Rattle.operations.specs.Operations.{operation_records, operands_allowed}
use Rattle.machine_step.specs.View.{View}
use Rattle.machine_step.specs.Memory.{heap_ok}
use Rattle.machine_step.specs.Step.{Config}
use Rattle.machine.specs.Run.{ran, starting}
use Rattle.trees_proof.specs.Evaluation.{Evaluated, evaluate}
use Rattle.trees_proof.specs.Claims.{RunAnswers, TreeRunsWhole}
use Rattle.trees_proof.proofs.Trees.{tree_runs_whole}
use Rattle.layout_proof.specs.Held.{Placed}
use Rattle.layout_proof.proofs.Runs.{Does, so}
use Rattle.emit_proof.specs.Claims.{Readable}
use Rattle.emit_proof.proofs.Operations.{operation_readable}
use Rattle.code_proof.specs.Claims.{Ready, EndsWith, FaultsWith, RunsAsItNames}
use Rattle.code_proof.proofs.Puts.{given, puts_sets}
use Rattle.code_proof.proofs.Records.{immediate_does}
use Rattle.code_proof.proofs.Computed.{mov_does}
use Rattle.code_proof.proofs.Divided.{Stops}
use Rattle.code_proof.proofs.Operated.{arithmetic_does, arithmetic_stops}

-- a heap that the machine takes is of whole blocks
whole_blocks : (block n : ℕ) → heap_ok block n ≡ true → (n ≡ block * (n / block)) × (n / block ≤ 1048576)
unfolding heap_ok
whole_blocks block n e =
    let p = both (eqb (n % block) 0) (leb 2 (n / block) && leb (n / block) 1048576) (both (leb 1 block) _ e).1 in
    let q = both (leb 2 (n / block)) (leb (n / block) 1048576) p.1 in
    (omega (arith, div-add-mod n block, eqb-true (n % block) 0 p.0), leb-true (n / block) 1048576 q.1)

pub placed : (G : Shape) → Supported G → (v : View) → Ready G v → Placed G (v.size / block_words G) (starting v)
placed G sup v r =
    let b = whole_blocks (block_words G) v.size r.heap in
    record { shape = sup; stack = r.stack; deep = r.deep; words = b.0; fits = b.1 }

-- records that a tree writes, with their number as step limit
module _ (G : Shape) (words : ℕ → ℕ) (v : View) (h : Ready G v) (records : List Code) (r : Readable records) (u : Tree) (same : flat u 0 ≡ records) where
  answers : RunAnswers (length records) (ran (block_words G) words (joined code_bytes records) (length records) v) (evaluate words u (starting v))
  unfolding TreeRunsWhole
  answers = rw (r.runs (block_words G) words (length records) v h.heap, ← same, length_flat u 0 0) (rw (add-zero (size u)) at (tree_runs_whole words u 0 0 v))

  answered : {o : Evaluated} → evaluate words u (starting v) ≡ o → RunAnswers (length records) (ran (block_words G) words (joined code_bytes records) (length records) v) o
  answered e = subst (RunAnswers (length records) (ran (block_words G) words (joined code_bytes records) (length records) v)) e answers

  pub ends : {Q : Config → Type 0} → Does words u (starting v) Q → EndsWith G words records v Q
  ends d = let e = answered d.run in record { steps = e.0; within = e.1; last = d.to; run = e.2; post = d.post }

  faults : (t : ℕ) → Stops words u (starting v) t → FaultsWith G words records v t
  faults t d =
      let e = answered d.run in
      record { steps = e.0; place = e.1; within = e.2; above = e.3; below = e.4; last = d.at; run = e.5; rest = d.rest }

pub runs_as_it_names : RunsAsItNames
unfolding RunsAsItNames operation_records operands_allowed
runs_as_it_names G sup words v h t x y f g k =
    let p = placed G sup v h in
    record {
      loads_immediate = λ value w.
          ends G words v h (operation_records G (LoadImmediate t value)) (operation_readable G sup (LoadImmediate t value) w f) (load_immediate G t value) refl
          (so (immediate_does words (starting v) p t value (given G t f).below) (λ d. puts_sets));
      mov = ends G words v h (operation_records G (Mov t x)) (operation_readable G sup (Mov t x) tt (rw (f, g))) (mov_tree G t x) refl
          (mov_does words (starting v) p t x (given G t f).below (given G x g).below);
      arithmetic = λ o n e.
          ends G words v h (operation_records G (Arithmetic o t x y)) (operation_readable G sup (Arithmetic o t x y) tt (rw (f, g, k))) (arithmetic G o t x y) refl
          (arithmetic_does words (starting v) p t x y (given G t f) (given G x g) (given G y k) o n e);
      faults = λ o n e.
          faults G words v h (operation_records G (Arithmetic o t x y)) (operation_readable G sup (Arithmetic o t x y) tt (rw (f, g, k))) (arithmetic G o t x y) refl t
          (arithmetic_stops words (starting v) p t x y (given G t f) (given G x g) (given G y k) o n e);
    }
