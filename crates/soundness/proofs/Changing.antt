-- Each order that changes something, on a channel that carries what the induction carries, performs its abstract order.
use mathlib.Core.Bool.{Bool, true, false, not, cond}
use mathlib.Core.List.{List, ◌++◌}
use mathlib.Core.Logic.{◌≢◌}
use mathlib.Core.Path.{◌≡◌, refl, sym, ◌∙◌, ap, fun_ext}
use Prim.Native.Nat.{ℕ, zero, suc, ◌+◌, ◌-◌, ◌*◌, ◌≤◌, ◌<◌}
use native.Mathlib.Omega.{arith}
use lib.Dec.{ltb, eqb}
use lib.ListN.{length, take}
use lib.Seq.{length-take-le}
use borrow.Author.Tests.{ltb-true, leb-true, ne_eqb}
use Rattle.records.specs.Contexts.{ext_at}
use Rattle.records.specs.declared.binding.Kind.TheVariants.{Linked, Ext}
use Rattle.records.specs.declared.order.Calculation.{Calculation}
use Rattle.records.specs.declared.order.Order.{Order}
use Rattle.records.specs.declared.order.Order.TheVariants.{Put, Compute, Copy, Drop, Store, Load, Print}
use Rattle.records.proofs.Conditions.{never, and_left, and_right}
use Rattle.layout.specs.declared.config.Shape.{Shape}
use Rattle.layout.specs.Config.{Supported, positions}
use Rattle.layout.specs.Positions.{location}
use Rattle.memory.specs.Objects.{ext_in, load_object, object_sizes}
use Rattle.machine_step.specs.Step.{Config}
use Rattle.trees_proof.specs.Evaluation.{done, evaluate}
use Rattle.heap.proofs.ValueLemmas.{hold_at}
use Rattle.heap.specs.Blocks.{Cell, pointers}
use Rattle.heap.specs.Reachability.{ReachableCount}
use Rattle.heap.specs.Values.{Value, integer, object, Values, nil, cons, count_of, appended, first_of, rest_of, copies, value_at, KindsFrom}
use Rattle.heap.specs.Apart.{HoldsApart, HoldAllApart}
use Rattle.heap.specs.Orders as abstract
use Rattle.heap.specs.Orders.{HeapState, list_of}
use Rattle.heap.proofs.OrderLemmas.{stored_by}
use Rattle.layout_proof.specs.Held.{held, Keeps}
use Rattle.layout_proof.proofs.Runs.{Does, so}
use Rattle.memory_proof.proofs.Acquiring.{Within}
use Rattle.memory_proof.proofs.Attempting.{Attempts, apart, does, attempt_weaken, attempt_why}
use Rattle.memory_proof.proofs.Shown.{heap_of}
use Rattle.memory_proof.proofs.Variables.{variable, variables, variables_length}
use Rattle.order_context_proof.proofs.Bindings.{good_length}
use Rattle.order_context_proof.proofs.KindsAfter.{ext_left, ext_right, ext_take, ext_made, ext_made_all, kind_at_lem, ext_in_lem, ext_in_whole}
use Rattle.order_context_proof.proofs.ValueKinds.{count_joined, count_first, count_copies, integer_at_lem, kinds_moved}
use Rattle.word.specs.Results.{result, result_defined}
use Rattle.order_spec.specs.Plain.{integer_of, plainly, AsStored, OwedKinds, OwedResult}
use Rattle.order_spec.specs.Writes.{made, made_all, kind_at, tree_of, context_after, present, kinds_ok, asked}
use Rattle.channel_step.specs.Playing.{Channel}
use Rattle.soundness.specs.Claims.{changes, Owed}
use Rattle.soundness.proofs.Appending.{Performed, put_does, compute_does, compute_stops}
use Rattle.soundness.proofs.Copying.{among, copy_does}
use Rattle.soundness.proofs.Dropping.{drop_does, store_tries}
use Rattle.soundness.proofs.Loading.{Below, load_does}
use Rattle.soundness.proofs.Carried.{Carried, Room, abstractly}
use Rattle.machine.specs.Run.{starting}

-- an integer variable's Snd is the plain machine's integer
pub integer_there : (G : Shape) (fields : ℕ → List Cell) (linked : ℕ → ℕ) (ext : ℕ → Bool) (c : Config) (vs : Values) → HoldAllApart (object_sizes G) fields linked vs (variables ext c 0 (count_of vs)) → KindsFrom ext 0 vs
    → (a : ℕ) → a < count_of vs → ext a ≡ true → held c (location (2 * a + 1)) ≡ integer_of (value_at a vs)
integer_there G fields linked ext c vs holds kinds a h e =
    let z : 0 + a ≡ a = omega arith in
    let i = integer_at_lem ext 0 vs a kinds h (rw z e) in
    let q = hold_at (object_sizes G) fields linked (variables ext c 0 a) (variable ext c a) (variables ext c (suc a) (count_of vs - suc a)) vs (rw (among ext c a (count_of vs) h) at holds) in
    let p : HoldsApart (object_sizes G) fields linked (integer i.0) (variable ext c a) = rw (variables_length ext c 0 a, i.1) at q in
    rw i.1 p.1

module _ (G : Shape) where
  -- as many variables as the plain machine has values after the order
  recounted : {words : ℕ → ℕ} {blocks : ℕ} {c : Config} {o : _} {ext ext' : ℕ → Bool} {k j n : ℕ} {t : _} → n ≡ j → Does words t c (Performed G blocks c o ext ext' k j) → Does words t c (Performed G blocks c o ext ext' k n)
  recounted e d = rw e d

  attempted : {words : ℕ → ℕ} {blocks : ℕ} {c : Config} {o : _} {ext ext' : ℕ → Bool} {k j n : ℕ} {t : _} {F : Type 0} {W : Config → Type 0} → n ≡ j → Attempts words t c F (λ d. Performed G blocks c o ext ext' k j d × W d) → Attempts words t c F (λ d. Performed G blocks c o ext ext' k n d × W d)
  attempted e d = rw e d

  reattempted : {words : ℕ → ℕ} {blocks : ℕ} {c : Config} {o : _} {ext ext' : ℕ → Bool} {k j n : ℕ} {t : _} {W : Config → Type 0} (F : ℕ → Type 0) → k ≡ n → Attempts words t c (F k) (λ d. Performed G blocks c o ext ext' k j d × W d) → Attempts words t c (F n) (λ d. Performed G blocks c o ext ext' n j d × W d)
  reattempted F e d = rw (← e) d

  recounted_kept : {words : ℕ → ℕ} {blocks : ℕ} {c : Config} {o : _} {ext ext' : ℕ → Bool} {k j n : ℕ} {t : _} {W : Config → Type 0} → n ≡ j → Does words t c (λ d. Performed G blocks c o ext ext' k j d × W d) → Does words t c (λ d. Performed G blocks c o ext ext' k n d × W d)
  recounted_kept e d = rw e d

  -- the variables that a load leaves have positions
  pub loaded_most : Supported G → (v n : ℕ) → 2 * v < positions G → cond (eqb n 0) 0 (2 * (v + n)) ≤ positions G → 2 * (v + n) < positions G
  loaded_most s v zero h a = omega arith
  loaded_most s v (suc n) h a = let b = rw (ne_eqb (suc n) 0 (λ z. omega arith)) at a in omega (arith, s.even)

  module _ (words : ℕ → ℕ) {blocks bound : ℕ} {past : List HeapState} {ch : Channel} {vs : Values} (f : Carried G blocks bound past ch vs) (bindings : List ℕ) where
    abbrev K : ℕ
    K = count_of vs

    abbrev C : Config
    C = starting ch.view

    abbrev E : ℕ → Bool
    E = ext_at ch.context

    abbrev E' : Order → ℕ → Bool
    E' o = ext_at (context_after ch.context K bindings o)

    abbrev Goal : Order → Type 0
    Goal o = Does words (tree_of G ch.context K bindings o) C (Performed G blocks C (abstractly o vs) E (E' o) K (count_of (plainly o vs)))

    long : length ch.context ≡ 8 * K
    long = (good_length ch.context f.places).0

    pub integer_held : (a : ℕ) → a < K → E a ≡ true → held C (location (2 * a + 1)) ≡ integer_of (value_at a vs)
    integer_held a h e = integer_there G (heap_of G C).fields f.represents.linked E C vs f.represents.holds f.kinds a h e

    -- one more integer variable
    one_more : (w : ℕ) → count_of (appended vs (cons (integer w) nil)) ≡ suc K
    one_more w = count_joined vs (cons (integer w) nil) ∙ more
      where
        more : K + 1 ≡ suc K
        more = omega arith

    new_integer : ext_at (ch.context ++ made Ext K) K ≡ true
    new_integer = let z : K + 0 ≡ K = omega arith in rw z at (ext_right ch.context (made Ext K) K long 0) ∙ ext_made Ext K

    put_order : (value : ℕ) → 2 * K + 2 ≤ positions G → Goal (Put value)
    unfolding tree_of context_after plainly
    put_order value h =
        recounted (one_more value) (put_does G E (E' (Put value)) C K f.placed (omega (arith, f.placed.shape.even)) (λ x l. ext_left ch.context (made Ext K) K long x l) new_integer words value)

    compute_order : (o : Calculation) (a b : ℕ) → a < K → b < K → E a ≡ true → E b ≡ true → 2 * K + 2 ≤ positions G → OwedResult (Compute o a b) vs → Goal (Compute o a b)
    unfolding tree_of context_after plainly
    compute_order o a b ak bk ea eb h owed =
        let x = integer_held a ak ea in
        let y = integer_held b bk eb in
        recounted (one_more (result o (integer_of (value_at a vs)) (integer_of (value_at b vs))))
        (rw (x, y) at (compute_does G E (E' (Compute o a b)) C K f.placed (omega (arith, f.placed.shape.even)) (λ x l. ext_left ch.context (made Ext K) K long x l) new_integer words a b ak bk o (rw (x, y) owed)))

    -- a compute that is done has its result
    computed_result : (o : Calculation) (a b : ℕ) → a < K → b < K → E a ≡ true → E b ≡ true → 2 * K + 2 ≤ positions G → (d : Config)
        → evaluate words (tree_of G ch.context K bindings (Compute o a b)) C ≡ done d → OwedResult (Compute o a b) vs
    unfolding tree_of context_after
    computed_result o a b ak bk ea eb h d e = by (result_defined o (held C (location (2 * a + 1))) (held C (location (2 * b + 1)))) refl
      where
        x : held C (location (2 * a + 1)) ≡ integer_of (value_at a vs)
        x = integer_held a ak ea

        y : held C (location (2 * b + 1)) ≡ integer_of (value_at b vs)
        y = integer_held b bk eb

        by : (q : Bool) → result_defined o (held C (location (2 * a + 1))) (held C (location (2 * b + 1))) ≡ q → result_defined o (integer_of (value_at a vs)) (integer_of (value_at b vs)) ≡ true
        by true z = rw (x, y) at z
        by false z =
            let s = compute_stops G E (E' (Compute o a b)) C K f.placed (omega (arith, f.placed.shape.even)) (λ x l. ext_left ch.context (made Ext K) K long x l) new_integer words a b ak bk o z in
            absurd (apart (sym e ∙ s.1))

    -- an order whose tree is done has met no division fault
    pub result_by_run : (o : Order) → present ch.context K bindings o ≡ true → kinds_ok ch.context K bindings o ≡ true → asked ch.context K bindings o ≤ positions G
        → (d : Config) → evaluate words (tree_of G ch.context K bindings o) C ≡ done d → OwedResult o vs
    unfolding present kinds_ok asked
    result_by_run (Put value) p e a d r = tt
    result_by_run (Compute o x y) p e a d r =
        computed_result o x y (ltb-true x K (and_left (ltb x K) (ltb y K) p)) (ltb-true y K (and_right (ltb x K) (ltb y K) p)) (and_left (E x) (E y) e) (and_right (E x) (E y) e) a d r
    result_by_run (Copy x n) p e a d r = tt
    result_by_run Drop p e a d r = tt
    result_by_run (Store n tag) p e a d r = tt
    result_by_run (Load n) p e a d r = tt
    result_by_run (Print newline x) p e a d r = tt

    -- where a context has j variables: room for what they lead to and for n variables stored
    abbrev Spare : ℕ → ℕ → Type 0
    Spare n j = (count : ℕ) → ReachableCount (heap_of G C).fields (pointers (variables E C 0 j)) count → count + length (object_sizes G n) < blocks

    -- an order does what the abstract heap names, or faults where there is no room; after a store FREE is within the heap
    abbrev Attempt : Order → Type 0
    Attempt o =
        Attempts words (tree_of G ch.context K bindings o) C (Room G ch vs o (suc blocks) → f.frontier < blocks → ⊥)
        (λ d. Performed G blocks C (abstractly o vs) E (E' o) K (count_of (plainly o vs)) d × (stored_by (abstractly o vs) ≢ 0 → Within G blocks (heap_of G d).lazy_head))

    module _ (below : f.frontier ≤ blocks) where
      copy_order : (a n : ℕ) → a < K → 2 * (K + n) < positions G → Goal (Copy a n)
      unfolding tree_of context_after plainly
      copy_order a n ak most =
          recounted (count_joined vs (copies n (value_at a vs)) ∙ ap (λ (m : ℕ). K + m) (count_copies n (value_at a vs)))
          (copy_does G words E (E' (Copy a n)) C K a n f.placed ak most (λ x l. ext_left ch.context new K long x l)
          (λ i l. ext_right ch.context new K long i ∙ ext_made_all (kind_at ch.context a) K n i l ∙ kind_at_lem ch.context a) below f.represents)
        where
          new : List ℕ
          new = made_all (kind_at ch.context a) K n

      drop_order : (e : ℕ) → K ≡ suc e → Goal Drop
      unfolding tree_of context_after plainly
      drop_order e q =
          let z : K - 1 ≡ e = omega arith in
          let few = f.few in
          recounted (count_first (K - 1) vs (omega arith))
          (rw (z, q) (drop_does G words E (ext_at (take (8 * e) ch.context)) C f.placed e (omega arith) below (λ x l. ext_take ch.context e x l) (rw q at f.represents)))

      store_order : (n tag : ℕ) → n ≤ K → 2 * (K - n) + 2 < positions G → Attempt (Store n tag)
      unfolding tree_of context_after plainly
      store_order n tag nk most =
          let r : ℕ = K - n in
          let e : r + n ≡ K = omega arith in
          let few = f.few in
          let whole : length (take (8 * r) ch.context) ≡ 8 * r = length-take-le (8 * r) ch.context (omega (arith, long)) in
          let z : r + 0 ≡ r = omega arith in
          let kinds : ext_in ch.context 0 ≡ E = fun_ext (ext_in_whole ch.context) in
          attempt_why (λ (o : Spare n K → f.frontier < blocks → ⊥) room lt. o (λ count k. omega (arith, room count k)) lt) (attempt_weaken (λ d x. (x.0, λ y. x.1))
          (attempted (count_joined (first_of r vs) (cons (object tag (rest_of r vs)) nil) ∙ ap (λ (m : ℕ). m + 1) (count_first r vs (omega arith)) ∙ plus_one r)
          (rw kinds (reattempted (λ j. Spare n j → f.frontier < blocks → ⊥) e (store_tries G words E (E' (Store n tag)) C f.placed r n tag (omega arith) most
          (λ x l. ext_left (take (8 * r) ch.context) (made Linked r) r whole x l ∙ ext_take ch.context r x l)
          (rw z at (ext_right (take (8 * r) ch.context) (made Linked r) r whole 0) ∙ ext_made Linked r)
          below (rw (← e) at f.represents))))))
        where
          plus_one : (m : ℕ) → m + 1 ≡ suc m
          plus_one m = omega arith

      -- what is below the last variable stays
      pub load_keeps : (n e : ℕ) → K ≡ suc e → E e ≡ false → 2 * (e + n) < positions G → OwedKinds bindings (Load n) vs
          → Does words (tree_of G ch.context K bindings (Load n)) C (λ d. Performed G blocks C (abstract.load n) E (E' (Load n)) K (count_of (plainly (Load n) vs)) d × Keeps (Below (K - 1)) C d)
      unfolding tree_of context_after plainly
      load_keeps n e q linked most owed = by (value_at (K - 1) vs) refl owed
        where
          z : K - 1 ≡ e
          z = omega arith

          front : List ℕ
          front = take (8 * e) ch.context

          whole : length front ≡ 8 * e
          whole = length-take-le (8 * e) ch.context (omega (arith, long))

          by : (v : Value) → value_at (K - 1) vs ≡ v → AsStored bindings n v
              → Does words (load_object G (ext_in bindings (K - 1)) (K - 1) n) C (λ d. Performed G blocks C (abstract.load n) E (ext_at (take (8 * (K - 1)) ch.context ++ bindings)) K (count_of (appended (first_of (K - 1) vs) (list_of (value_at (K - 1) vs)))) d × Keeps (Below (K - 1)) C d)
          by (integer w) is a = absurd a
          by (object tag ws) is a =
              let few = f.few in
              let c : count_of (appended (first_of (K - 1) vs) (list_of (value_at (K - 1) vs))) ≡ e + count_of ws
              = ap (λ (v : Value). count_of (appended (first_of (K - 1) vs) (list_of v))) is ∙ count_joined (first_of (K - 1) vs) ws ∙ ap (λ (m : ℕ). m + count_of ws) (count_first (K - 1) vs (omega arith) ∙ z) in
              let d = load_does G words E (ext_at (front ++ bindings)) C f.placed (ext_in bindings e) e tag ws below (omega arith) (omega (arith, a.0))
              (λ x l. ext_left front bindings e whole x l ∙ ext_take ch.context e x l) linked
              (λ x l h. let y : e + (x - e) ≡ x = omega arith in rw y at (ext_in_lem bindings e (x - e) ∙ sym (ext_right front bindings e whole (x - e))))
              (ap (λ (m : ℕ). value_at m vs) (sym z) ∙ is)
              (kinds_moved (ext_at bindings) (ext_at (front ++ bindings)) 0 e ws (λ x l. let y : 0 + x ≡ x = omega arith in rw y (ext_right front bindings e whole x)) a.1)
              (rw q at f.represents) in
              recounted_kept c (rw (z, q, ← a.0) d)

      load_order : (n e : ℕ) → K ≡ suc e → E e ≡ false → 2 * (e + n) < positions G → OwedKinds bindings (Load n) vs → Goal (Load n)
      load_order n e q linked most owed = so (load_keeps n e q linked most owed) (λ d x. x.0)

      -- an order that stores nothing
      quietly : (o : Order) → stored_by (abstractly o vs) ≡ 0 → Goal o → Attempt o
      quietly o z g = does (so g (λ d p. (p, λ n. absurd (n z))))

      -- with what an accepted order says
      pub changing_tries : (o : Order) → changes o ≡ true → present ch.context K bindings o ≡ true → kinds_ok ch.context K bindings o ≡ true → asked ch.context K bindings o ≤ positions G
          → Owed bindings o vs → Attempt o
      unfolding present kinds_ok asked
      changing_tries (Put value) c p e a w = quietly (Put value) refl (put_order value a)
      changing_tries (Compute o x y) c p e a w =
          quietly (Compute o x y) refl (compute_order o x y (ltb-true x K (and_left (ltb x K) (ltb y K) p)) (ltb-true y K (and_right (ltb x K) (ltb y K) p)) (and_left (E x) (E y) e) (and_right (E x) (E y) e) a w.1)
      changing_tries (Copy x n) c p e a w = quietly (Copy x n) refl (copy_order x n (ltb-true x K p) (copied n a))
        where
          copied : (n : ℕ) → cond (eqb n 0) (cond (E x) 0 (2 * x + 1)) (2 * (K + n)) ≤ positions G → 2 * (K + n) < positions G
          copied zero a = omega (arith, f.few)
          copied (suc n) a = let b = rw (ne_eqb (suc n) 0 (λ z. omega arith)) at a in omega (arith, f.placed.shape.even)
      changing_tries Drop c p e a w = let h = ltb-true 0 K p in quietly Drop refl (drop_order (K - 1) (omega arith))
      changing_tries (Store n tag) c p e a w = store_order n tag (leb-true n K p) (stored n (leb-true n K p) a)
        where
          stored : (n : ℕ) → n ≤ K → cond (eqb n 0) (2 * K + 2) (2 * K) ≤ positions G → 2 * (K - n) + 2 < positions G
          stored zero l a = omega (arith, f.placed.shape.even)
          stored (suc n) l a = omega (arith, f.few)
      changing_tries (Load n) c p e a w =
          let h = ltb-true 0 K p in
          quietly (Load n) refl (load_order n (K - 1) (omega arith) (turned (E (K - 1)) e) (loaded_most f.placed.shape (K - 1) n (omega (arith, f.few)) a) w.0)
        where
          turned : (b : Bool) → not b ≡ true → b ≡ false
          turned false e = refl
          turned true e = never e
      changing_tries (Print newline x) c p e a w = never c
