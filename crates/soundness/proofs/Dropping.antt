-- The last variable dropped, and the last ones stored: the orders perform what the abstract heap names.
use mathlib.Core.Bool.{Bool, true, false, cond}
use mathlib.Core.List.{[], ◌∷◌, ◌++◌}
use mathlib.Core.Path.{◌≡◌, refl, ◌∙◌}
use Prim.Native.Nat.{ℕ, suc, ◌+◌, ◌*◌, ◌≤◌, ◌<◌}
use native.Mathlib.Nat.{zero-add}
use native.Mathlib.Omega.{arith}
use lib.ListN.{length}
use Rattle.trees.specs.Tree.{nop, seq}
use Rattle.layout.specs.declared.config.Shape.{Shape}
use Rattle.layout.specs.Config.{positions}
use Rattle.layout.specs.Positions.{location}
use Rattle.machine_step.specs.Step.{Config}
use Rattle.code.specs.Code.{load_immediate}
use Rattle.memory.specs.Blocks.{erase_block}
use Rattle.memory.specs.Objects.{store_object, object_sizes}
use Rattle.heap.specs.Blocks.{pointers}
use Rattle.heap.specs.Reachability.{ReachableCount}
use Rattle.heap.proofs.Invariant.{Represents}
use Rattle.heap.specs.Orders.{drop, store}
use Rattle.heap.specs.Values.{Values}
use Rattle.layout_proof.specs.Held.{Placed}
use Rattle.layout_proof.proofs.HeldLemmas.{keeps_sub, keeps_register, placed_keeps, location_fits, location_free}
use Rattle.layout_proof.proofs.Runs.{Does, one, so}
use Rattle.code_proof.proofs.Puts.{puts_sets}
use Rattle.code_proof.proofs.Records.{immediate_does}
use Rattle.memory_proof.proofs.Acquiring.{Within}
use Rattle.memory_proof.proofs.Attempting.{Attempts, attempt_weaken}
use Rattle.memory_proof.proofs.DropOrder.{drop_integer, drop_order}
use Rattle.memory_proof.proofs.StoreOrder.{store_order_tries}
use Rattle.memory_proof.proofs.Shown.{L, heap_of}
use Rattle.memory_proof.proofs.Variables.{variable, variables, variables_snoc, variables_kinds}
use Rattle.soundness.proofs.Appending.{Performed, heap_same}

module _ (G : Shape) where
  module _ (words : ℕ → ℕ) {N m : ℕ} {values : Values} (ext ext' : ℕ → Bool) (c : Config) (v : Placed G N c) where
    -- the variable e is the last
    pub drop_does : (e : ℕ) → 2 * e + 2 < positions G → m ≤ N → ((x : ℕ) → x < e → ext' x ≡ ext x) → Represents (object_sizes G) (L G) (heap_of G c) m (variables ext c 0 (suc e)) values
        → Does words (cond (ext e) nop (erase_block G (location (2 * e)))) c (Performed G N c drop ext ext' (suc e) e)
    drop_does e h m_n agree rep = by (ext e) refl
      where
        snoc : variables ext c 0 (suc e) ≡ variables ext c 0 e ++ (variable ext c e ∷ [])
        snoc = variables_snoc ext c 0 e ∙ rw (zero-add e)

        kinds : (d : Config) → variables ext' d 0 e ≡ variables ext d 0 e
        kinds d = variables_kinds ext ext' d 0 e (λ x a b. agree x (omega arith))

        by : (q : Bool) → ext e ≡ q → Does words (cond q nop (erase_block G (location (2 * e)))) c (Performed G N c drop ext ext' (suc e) e)
        by true q = one refl (record { performs = rw (snoc, kinds c) (drop_integer G ext c e q); placed = v; quiet = refl })
        by false q =
            so (drop_order words ext c e v m_n h q (rw snoc at rep)) (λ d x.
            record { performs = rw (snoc, kinds d) x.0; placed = placed_keeps (omega arith, omega arith) x.1 v; quiet = x.1.calls_kept })

    -- the variables from r on are the last n; it faults only where the heap has no room for what is reachable and what it acquires
    pub store_tries : (r n tag : ℕ) → 2 * (r + n) < positions G → 2 * r + 2 < positions G → ((x : ℕ) → x < r → ext' x ≡ ext x) → ext' r ≡ false → m ≤ N
        → Represents (object_sizes G) (L G) (heap_of G c) m (variables ext c 0 (r + n)) values
        → Attempts words (seq (store_object G ext r n) (load_immediate G (location (2 * r + 1)) tag)) c
        (((count : ℕ) → ReachableCount (heap_of G c).fields (pointers (variables ext c 0 (r + n))) count → count + length (object_sizes G n) < N) → m < N → ⊥)
        (λ d. Performed G N c (store n tag) ext ext' (r + n) (suc r) d × Within G N (heap_of G d).lazy_head)
    store_tries r n tag h l agree linked le rep =
        let f = location_fits G (2 * r + 1) (omega arith) in
        let g = location_free (2 * r) in
        attempt_weaken (λ d x. (record { performs = x.0; placed = placed_keeps ((omega arith, omega arith, omega arith), omega (arith, g.0)) x.2 v; quiet = x.2.calls_kept }, x.1))
        (store_order_tries words ext ext' c r n tag (load_immediate G (location (2 * r + 1)) tag) v h l agree linked
        (λ u p. so (immediate_does words u p (location (2 * r + 1)) tag f.1) (λ z s.
        let t = puts_sets s in
        let K = t.1.kept in
        (t.0, heap_same G u z t.1.heap (keeps_register K 2 (omega arith) (omega (arith, f.0), omega arith)) (keeps_register K 3 (omega arith) (omega (arith, f.0), omega arith)), keeps_sub (λ x q. (q.1, q.0)) K)))
        le rep)
