-- A load of any number of values performs the load order and keeps the variables before it.
use mathlib.Core.Bool.{Bool, true, false}
use mathlib.Core.List.{List, [], ◌∷◌, ◌++◌}
use mathlib.Core.Logic.{◌≢◌}
use mathlib.Core.Path.{◌≡◌, refl, sym, ◌∙◌, ap, subst}
use Prim.Native.Nat.{ℕ, suc, ◌+◌, ◌*◌, ◌≤◌, ◌<◌}
use native.Mathlib.Omega.{arith}
use lib.ListN.{length}
use Rattle.layout.specs.declared.config.Shape.{Shape}
use Rattle.layout.specs.Config.{Supported, positions}
use Rattle.layout.specs.Positions.{location}
use Rattle.machine_step.specs.Step.{Config}
use Rattle.memory.specs.Objects.{load_object, object_sizes}
use Rattle.heap.specs.Blocks.{Cell, cell, pointers, Memory}
use Rattle.heap.specs.Counting.{occ}
use Rattle.heap.proofs.CountingLemmas.{same_self, occ_pointers}
use Rattle.heap.proofs.Invariant.{Consistent, Represents}
use Rattle.heap.specs.Operations.{with_headers, ReadObject}
use Rattle.heap.specs.Orders.{load, Performs, loads_none, loads_last, loads_shared}
use Rattle.heap.specs.Reachability.{start, follow, ReachableFrom}
use Rattle.heap.proofs.ValueLemmas.{object_nonzero, object_pointers, hold_at}
use Rattle.heap.specs.Values.{KindsFrom, Value, integer, object, Values, nil, cons, count_of, value_at, concat, lengths}
use Rattle.heap.specs.Apart.{ObjectApart, HoldsApart, HoldAllApart}
use Rattle.heap.specs.Words.{block_fields}
use Rattle.layout_proof.specs.Held.{held, Keeps, Placed}
use Rattle.layout_proof.proofs.HeldLemmas.{keeps_refl, location_grows}
use Rattle.layout_proof.proofs.Runs.{Does, one, so}
use Rattle.memory_proof.proofs.DropOrder.{few_roots}
use Rattle.memory_proof.proofs.LoadedObject.{ObjectTaken, was_last, was_shared, load_does}
use Rattle.memory_proof.proofs.Loading.{MayShare, as_variables}
use Rattle.memory_proof.proofs.LoadingOthers.{Lies, Under}
use Rattle.memory_proof.proofs.ReachedBlocks.{reachable_block}
use Rattle.memory_proof.proofs.Shown.{L, heap_of}
use Rattle.memory_proof.proofs.Variables.{variable, variables, variables_append, variables_length, variables_kept, variables_kinds}

module _ {G : Shape} {N n : ℕ} {i : ℕ → ℕ} {roots : List ℕ} (shape : Supported G) (s : Config) (g : Consistent (L G) (heap_of G s) i n roots) (fits : n ≤ N) (most : N ≤ 1048576) (few : length roots ≤ 1048576) where
  pub object_lies : (c : List Cell) (ch : List (List Cell)) (p : ℕ) → (p ≢ 0 → ReachableFrom (block_fields G.fields s.state.mem) roots p) → ObjectApart (block_fields G.fields s.state.mem) i p (c ∷ ch) → Lies G N (block_fields G.fields s.state.mem) p (c ∷ ch)
  object_lies c [] p r o = let b = reachable_block shape s g fits most few p (r o.0) in (b.number, b.inside, b.address, o.1, o.3)
  object_lies c (d ∷ ch) p r o =
      let b = reachable_block shape s g fits most few p (r o.0) in
      (b.number, b.inside, b.address, o.1, o.3, o.4, object_lies d ch o.3.fst (λ nz. follow p (r o.0) nz (rw o.4 (omega (arith, occ_pointers o.3.fst o.1 (c ++ (o.3 ∷ [])), occ_pointers o.3.fst c (o.3 ∷ []), same_self o.3.fst)))) o.6)

  pub object_may_share : (ch : List (List Cell)) (p k : ℕ) → k ≤ 1048576 → (p ≢ 0 → ReachableFrom (block_fields G.fields s.state.mem) roots p) → ObjectApart (block_fields G.fields s.state.mem) i p ch → MayShare G true N k s.state.mem (pointers (concat ch))
  object_may_share ch p k h r o = record {
    each = λ e q m nz.
        let b = reachable_block shape s g fits most few q (object_pointers {fields' = block_fields G.fields s.state.mem} {linked' = i} (ReachableFrom (block_fields G.fields s.state.mem) roots) (λ b r. refl) (λ b r. refl) (λ y b r nz m. follow y r nz m) ch p r o q nz m) in
        (b.number, b.inside, b.address, omega (arith, b.small));
  }

as_variables_all : (ext : ℕ → Bool) (sh : ℕ → List ℕ) (f : ℕ → List Cell) (i : ℕ → ℕ) (v : ℕ) (vs : Values) (cs : List Cell) → KindsFrom ext v vs → HoldAllApart sh f i vs cs → as_variables ext v cs ≡ cs
as_variables_all ext sh f i v nil cs k a = rw a
as_variables_all ext sh f i v (cons (integer w) vs) cs k a = rw (a.2, k.0, as_variables_all ext sh f i (suc v) vs a.1 k.1 a.4) (ap (λ (x : ℕ). cell x a.0.snd ∷ a.1) (sym a.3.0))
as_variables_all ext sh f i v (cons (object t us) vs) cs k a = rw (a.2, k.0, as_variables_all ext sh f i (suc v) vs a.1 k.1 a.4)

-- an object's blocks are read as its chunks
object_reads : (fields : ℕ → List Cell) (linked : ℕ → ℕ) (p : ℕ) (c : List Cell) (ch : List (List Cell)) → ObjectApart fields linked p (c ∷ ch) → ReadObject fields p c ch
object_reads fields linked p c [] o = (o.1, o.3)
object_reads fields linked p c (d ∷ ch) o = (o.1, o.3, o.4, object_reads fields linked o.3.fst d ch o.6)

variables_front : (ext ext' : ℕ → Bool) (s u : Config) (e n : ℕ) → ((x : ℕ) → x < e → ext' x ≡ ext x) → Keeps (Under e) s u → variables ext' u 0 (e + n) ≡ variables ext s 0 e ++ variables ext' u e n
variables_front ext ext' s u e n f k =
    variables_append ext' u 0 e n ∙ ap (λ (x : ℕ). variables ext' u 0 e ++ variables ext' u x n) (omega arith)
    ∙ ap (λ (x : List Cell). x ++ variables ext' u e n) (variables_kinds ext ext' u 0 e (λ x a b. f x (omega arith)) ∙ variables_kept ext s u 0 e (λ p a b. let z = location_grows p (2 * e) (omega arith) in (omega (arith, z.0), omega (arith, z.0), z.2, z.1)) k)

-- what a load leaves of heap and variables performs the order
taken_performs : (G : Shape) {ps : List ℕ} {n : ℕ} {M M' : Memory} (xs : List Cell) (c : Cell) (d : List Cell) (ch : List (List Cell)) → ps ≡ pointers (concat (d ∷ ch)) → lengths (d ∷ ch) ≡ object_sizes G n → ReadObject M.fields c.fst d ch → ObjectTaken M c.fst (d ∷ ch) ps M'
    → Performs (object_sizes G) (L G) M (load n) (xs ++ (c ∷ [])) M' (xs ++ concat (d ∷ ch))
taken_performs G {n = n} {M' = M'} xs c d ch e sz rd (was_last z t) = loads_last xs c n d ch M' sz rd z t
taken_performs G {n = n} {M = M} {M' = M'} xs c d ch e sz rd (was_shared z w t) =
    let p : Performs (object_sizes G) (L G) M (load n) (xs ++ (c ∷ [])) (with_headers M M'.header) (xs ++ concat (d ∷ ch)) = loads_shared xs c n d ch M'.header sz rd (λ b nz. t b nz ∙ ap (λ (x : List ℕ). M.header b + occ b x) e) in
    subst (λ (x : Memory). Performs (object_sizes G) (L G) M (load n) (xs ++ (c ∷ [])) x (xs ++ concat (d ∷ ch))) (sym w) p

module _ {G : Shape} (words : ℕ → ℕ) where
  module _ {N m : ℕ} {values : Values} (ext ext' : ℕ → Bool) (s : Config) (e tag : ℕ) (en : Placed G N s) (m_n : m ≤ N) (e1 : 2 * e + 2 < positions G) (agree : (x : ℕ) → x < e → ext' x ≡ ext x) (linked : ext e ≡ false)
      (rep : Represents (object_sizes G) (L G) (heap_of G s) m (variables ext s 0 e ++ (variable ext s e ∷ [])) values) where
    load_some_lem : (v : Value) (ws : Values) → 2 * (e + count_of (cons v ws)) < positions G → value_at e values ≡ object tag (cons v ws) → KindsFrom ext' e (cons v ws)
        → Does words (load_object G ext' e (count_of (cons v ws))) s
        (λ u. Performs (object_sizes G) (L G) (heap_of G s) (load (count_of (cons v ws))) (variables ext s 0 e ++ (variable ext s e ∷ [])) (heap_of G u) (variables ext' u 0 (e + count_of (cons v ws))) × Keeps (Under e) s u)
    load_some_lem v ws v_n is ks = by H.2 H.3 H.4 H.5
      where
        fst_held : (variable ext s e).fst ≡ held s (location (2 * e))
        fst_held = rw linked

        H : HoldsApart (object_sizes G) (block_fields G.fields s.state.mem) rep.linked (object tag (cons v ws)) (variable ext s e)
        H = rw (variables_length ext s 0 e, is) at (hold_at (object_sizes G) (block_fields G.fields s.state.mem) rep.linked (variables ext s 0 e) (variable ext s e) [] values rep.holds)

        by : (ch : List (List Cell)) → ObjectApart (block_fields G.fields s.state.mem) rep.linked (variable ext s e).fst ch → HoldAllApart (object_sizes G) (block_fields G.fields s.state.mem) rep.linked (cons v ws) (concat ch) → lengths ch ≡ object_sizes G (count_of (cons v ws))
            → Does words (load_object G ext' e (count_of (cons v ws))) s
            (λ u. Performs (object_sizes G) (L G) (heap_of G s) (load (count_of (cons v ws))) (variables ext s 0 e ++ (variable ext s e ∷ [])) (heap_of G u) (variables ext' u 0 (e + count_of (cons v ws))) × Keeps (Under e) s u)
        by [] o a sz = let z : ◌≡◌ {A = ℕ} 0 1 = cc a.2 in absurd (omega arith)
        by (d ∷ ch) o a sz =
            let q : ℕ = (variable ext s e).fst in
            let few : length (pointers (variables ext s 0 e ++ (variable ext s e ∷ []))) ≤ 1048576 = few_roots ext s e (omega (arith, e1, en.shape.frame)) in
            let r : q ≢ 0 → ReachableFrom (block_fields G.fields s.state.mem) (pointers (variables ext s 0 e ++ (variable ext s e ∷ []))) q = λ nz. start nz (omega (arith, occ_pointers q (variables ext s 0 e) (variable ext s e ∷ []), same_self q)) in
            let nz : q ≢ 0 = object_nonzero (block_fields G.fields s.state.mem) rep.linked q d ch o in
            let b = reachable_block en.shape s rep.consistent m_n en.fits few q (r nz) in
            let sn : as_variables ext' e (concat (d ∷ ch)) ≡ concat (d ∷ ch) = as_variables_all ext' (object_sizes G) (block_fields G.fields s.state.mem) rep.linked e (cons v ws) (concat (d ∷ ch)) ks a in
            let pt : MayShare G true N (count_of (cons v ws)) s.state.mem (pointers (as_variables ext' e (concat (d ∷ ch)))) = rw sn (object_may_share en.shape s rep.consistent m_n en.fits few (d ∷ ch) q (count_of (cons v ws)) (omega arith) r o) in
            so (load_does words ext' s e (count_of (cons v ws)) q b.number (d ∷ ch) en (sym fst_held) b.address b.inside (omega (arith, b.small)) (object_lies en.shape s rep.consistent m_n en.fits few d ch q r o) sz pt (omega arith) v_n) (λ u x.
            let vv : variables ext' u 0 (e + count_of (cons v ws)) ≡ variables ext s 0 e ++ concat (d ∷ ch) = variables_front ext ext' s u e (count_of (cons v ws)) agree x.2 ∙ ap (λ (y : List Cell). variables ext s 0 e ++ y) (x.0 ∙ sn) in
            (rw vv (taken_performs G (variables ext s 0 e) (variable ext s e) d ch (ap pointers sn) sz (object_reads (block_fields G.fields s.state.mem) rep.linked q d ch o) x.1), x.2))

    -- the object in variable e loaded into variables e and on, whatever registers and spills they have
    pub load_order : (ws : Values) → 2 * (e + count_of ws) < positions G → value_at e values ≡ object tag ws → KindsFrom ext' e ws
        → Does words (load_object G ext' e (count_of ws)) s
        (λ u. Performs (object_sizes G) (L G) (heap_of G s) (load (count_of ws)) (variables ext s 0 e ++ (variable ext s e ∷ [])) (heap_of G u) (variables ext' u 0 (e + count_of ws)) × Keeps (Under e) s u)
    load_order nil v_n is ks =
        let z : e + 0 ≡ e = omega arith in
        let vv : variables ext' s 0 (e + 0) ≡ variables ext s 0 e = ap (variables ext' s 0) z ∙ variables_kinds ext ext' s 0 e (λ x a b. agree x (omega arith)) in
        let p : Performs (object_sizes G) (L G) (heap_of G s) (load 0) (variables ext s 0 e ++ (variable ext s e ∷ [])) (heap_of G s) (variables ext s 0 e) = loads_none (variables ext s 0 e) (variable ext s e) in
        one refl (rw vv p, keeps_refl)
    load_order (cons v ws) v_n is ks = load_some_lem v ws v_n is ks
