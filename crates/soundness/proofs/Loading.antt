-- The last variable's object loaded: the order performs what the abstract heap names.
use mathlib.Core.Bool.{Bool, true, false}
use mathlib.Core.List.{[], ◌∷◌, ◌++◌}
use mathlib.Core.Logic.{◌≢◌}
use mathlib.Core.Path.{◌≡◌, refl, ◌∙◌}
use Prim.Native.Nat.{ℕ, zero, suc, ◌+◌, ◌-◌, ◌*◌, ◌≤◌, ◌<◌}
use native.Mathlib.Nat.{zero-add}
use native.Mathlib.Omega.{arith}
use Rattle.layout.specs.declared.config.Shape.{Shape}
use Rattle.layout.specs.Config.{positions}
use Rattle.layout.specs.Positions.{location}
use Rattle.machine_step.specs.Step.{Config}
use Rattle.memory.specs.Objects.{fst, chunks, capacity, freed, load_values, load_block, load_others, load_some, load_object, object_sizes}
use Rattle.heap.proofs.Invariant.{Represents}
use Rattle.heap.specs.Orders.{load}
use Rattle.heap.specs.Values.{object, Values, count_of, value_at, KindsFrom}
use Rattle.layout_proof.specs.Held.{Keeps, Placed}
use Rattle.layout_proof.proofs.HeldLemmas.{placed_keeps, location_free}
use Rattle.layout_proof.proofs.Runs.{Does, so}
use Rattle.memory_proof.proofs.LoadOrder.{load_order}
use Rattle.memory_proof.proofs.Shown.{L, heap_of}
use Rattle.memory_proof.proofs.Variables.{variable, variables, variables_snoc}
use Rattle.soundness.proofs.Appending.{Performed}

-- what lies below variable v, registers and spills that a load uses left out
abbrev pub Below : ℕ → ℕ → Type 0
Below v x = (x ≢ 1) × (x ≢ 2) × (x ≢ 16) × (x < location (2 * v))

module _ (G : Shape) where
  -- a load looks at the kinds of its own variables alone
  module _ (f g : ℕ → Bool) where
    abbrev Alike : ℕ → ℕ → Type 0
    Alike v n = (x : ℕ) → v ≤ x → x < v + n → f x ≡ g x

    values_same : (shared : Bool) (v k free r : ℕ) → Alike v k → load_values G f shared v k free r ≡ load_values G g shared v k free r
    values_same shared v zero free r a = refl
    values_same shared v (suc k) free r a = rw (a (v + k) (omega arith) (omega arith), values_same shared v k (free - 1) r (λ x l h. a x l (omega arith)))

    block_same : (shared other aside : Bool) (v k : ℕ) → Alike v k → load_block G f shared other aside v k ≡ load_block G g shared other aside v k
    block_same shared other aside v k a =
        rw (values_same shared v k (capacity G other) (fst v) a, values_same shared v k (capacity G other) 4 a)

    others_same : (shared : Bool) (m v n : ℕ) → Alike v n → load_others G f shared m v n ≡ load_others G g shared m v n
    others_same shared zero v n a = refl
    others_same shared (suc m) v n a =
        rw (others_same shared m v (n - (G.fields - 1)) (λ x l h. a x l (omega arith)), block_same shared true (freed G g v (n - (G.fields - 1))) (v + (n - (G.fields - 1))) (n - (n - (G.fields - 1))) (λ x l h. a x (omega arith) (omega arith)))

    some_same : (shared : Bool) (v n : ℕ) → Alike v n → load_some G f shared v n ≡ load_some G g shared v n
    some_same shared v n a =
        rw (others_same shared (chunks (G.fields - 1) (n - G.fields)) v (n - G.fields) (λ x l h. a x l (omega arith)), block_same shared false (freed G g v (n - G.fields)) (v + (n - G.fields)) (n - (n - G.fields)) (λ x l h. a x (omega arith) (omega arith)))

    pub load_same : (v n : ℕ) → Alike v n → load_object G f v n ≡ load_object G g v n
    load_same v n a = rw (some_same true v n a, some_same false v n a)

  module _ (words : ℕ → ℕ) {N m : ℕ} {values : Values} (ext ext' : ℕ → Bool) (c : Config) (v : Placed G N c) where
    -- the variable e is the last, and loads as `own` says
    pub load_does : (own : ℕ → Bool) (e tag : ℕ) (ws : Values) → m ≤ N → 2 * e + 2 < positions G → 2 * (e + count_of ws) < positions G → ((x : ℕ) → x < e → ext' x ≡ ext x) → ext e ≡ false
        → ((x : ℕ) → e ≤ x → x < e + count_of ws → own x ≡ ext' x) → value_at e values ≡ object tag ws → KindsFrom ext' e ws
        → Represents (object_sizes G) (L G) (heap_of G c) m (variables ext c 0 (suc e)) values
        → Does words (load_object G own e (count_of ws)) c (λ d. Performed G N c (load (count_of ws)) ext ext' (suc e) (e + count_of ws) d × Keeps (Below e) c d)
    load_does own e tag ws m_n h most agree linked alike is kinds rep =
        let snoc : variables ext c 0 (suc e) ≡ variables ext c 0 e ++ (variable ext c e ∷ []) = variables_snoc ext c 0 e ∙ rw (zero-add e) in
        rw (load_same own ext' e (count_of ws) alike)
        (so (load_order words ext ext' c e tag v m_n h agree linked (rw snoc at rep) ws most is kinds) (λ d x.
        (record { performs = rw snoc x.0; placed = placed_keeps (omega (arith, (location_free (2 * e)).0)) x.1 v; quiet = x.1.calls_kept }, x.1)))
