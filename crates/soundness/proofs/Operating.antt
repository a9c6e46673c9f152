-- Store, load, share_block_n and erase_block on a channel that carries what the induction carries, by the runs of their bytes.
use Rattle.std.specs.Prelude.{Ok}
use mathlib.Core.Bool.{Bool, true, false, cond}
use mathlib.Core.List.{List, [], ◌∷◌, ◌++◌}
use mathlib.Core.Logic.{◌≢◌}
use mathlib.Core.Path.{◌≡◌, refl, sym, ◌∙◌, ap, subst, fun_ext}
use Prim.Native.Nat.{ℕ, zero, suc, ◌+◌, ◌-◌, ◌*◌, ◌≤◌, ◌<◌}
use native.Mathlib.Decide.{ℕ_discrete}
use native.Mathlib.Omega.{arith}
use lib.Dec.{ltb, eqb}
use lib.ListN.{length, replicate, take}
use lib.Seq.{length-take-le}
use borrow.Author.Tests.{ltb-true, lt-ltb, le-leb, ne_eqb}
use Rattle.records.specs.declared.binding.Kind.TheVariants.{Linked}
use Rattle.records.specs.declared.order.Order.TheVariants.{Store, Load}
use Rattle.records.specs.Contexts.{checked_context, ext_at}
use Rattle.records.specs.Names.{last_label}
use Rattle.trees.specs.Tree.{Tree, labels, size}
use Rattle.layout.specs.declared.config.Shape.{Shape}
use Rattle.layout.specs.Config.{Supported, positions, most_variables}
use Rattle.layout.specs.Positions.{location}
use Rattle.emit.specs.Answers.{accepted}
use Rattle.memory.specs.Answered.{erase_answer, share_answer, store_tree, store_answer}
use Rattle.memory.specs.Objects.{ext_in, store_object, load_object, object_sizes}
use Rattle.memory.specs.LoadAnswered.{load_tree, load_fits, load_answer}
use Rattle.memory.specs.Blocks.{erase_block, share_block}
use Rattle.memory.proofs.Sizes.{erase_size, share_size, store_object_size, object_size}
use Rattle.machine_step.specs.Step.{Config}
use Rattle.machine_step.specs.View.{View}
use Rattle.machine.specs.Run.{Done, starting}
use Rattle.heap.specs.Blocks.{Cell, cell, pointers, Memory}
use Rattle.heap.proofs.ConsistencyLemmas.{consistent_same_roots, drop_consistent}
use Rattle.heap.proofs.CountingLemmas.{occ_replicate, occ_replicate_other, occ_pointers}
use Rattle.heap.proofs.GrowthLemmas.{reachable_below}
use Rattle.heap.proofs.Invariant.{Consistent, Represents}
use Rattle.heap.specs.Operations.{Share, with_headers, with_lazy}
use Rattle.heap.specs.Orders.{HeapState, store, load}
use Rattle.heap.proofs.OrderLemmas.{represents_copy}
use Rattle.heap.proofs.SoundLemmas.{sound, sound_refs}
use Rattle.heap.proofs.ValueLemmas.{hold_joined, hold_first, hold_rest, held_plainly}
use Rattle.heap.specs.Values.{Value, integer, object, Values, nil, cons, count_of, appended, first_of, rest_of, value_at, copies}
use Rattle.heap.specs.Apart.{HoldAllApart}
use Rattle.heap.specs.Words.{address_of, block_number, by_address, headers}
use Rattle.layout_proof.specs.Held.{held, Keeps, Placed}
use Rattle.layout_proof.proofs.HeldLemmas.{keeps_refl, placed_keeps, location_free, location_grows}
use Rattle.layout_proof.proofs.Runs.{Does, so}
use Rattle.memory_proof.proofs.DropOrder.{PointerErased, erase_performs, share_performs}
use Rattle.memory_proof.proofs.Shown.{L, heap_of}
use Rattle.memory_proof.proofs.StoreOrder.{StoredFrom, store_none_lem, store_performs, tagged}
use Rattle.memory_proof.proofs.Variables.{variable, variables, variables_length}
use Rattle.order_formed_proof.proofs.Formed.{Formed}
use Rattle.order_formed_proof.proofs.Blocks.{formed_erase, formed_share}
use Rattle.order_formed_proof.proofs.Objects.{formed_store, formed_load}
use Rattle.order_formed_proof.proofs.Granting.{erase_granted, share_granted, store_granted, load_granted}
use Rattle.order_context_proof.proofs.After.{count_within, context_after_lem}
use Rattle.order_context_proof.proofs.Bindings.{good_length, good_none, good_take}
use Rattle.order_context_proof.proofs.KindsAfter.{ext_left, ext_right, ext_take, ext_made, ext_in_whole}
use Rattle.order_context_proof.proofs.ValueKinds.{is_integer, kinds_at, count_joined, count_first}
use Rattle.order_spec.specs.Answered.{places_in}
use Rattle.order_spec.specs.Plain.{plainly, AsStored}
use Rattle.order_spec.specs.Writes.{made, tree_of, context_after, present, asked}
use Rattle.channel_step.specs.Playing.{Channel}
use Rattle.soundness.specs.Claims.{acquired, state_of, SoundAt}
use Rattle.soundness.proofs.Appending.{Performed}
use Rattle.soundness.proofs.Ending.{heap_ok_lem, ends}
use Rattle.soundness.proofs.Carried.{Carried, sound_at, places_are, Room, bounded_by_room, carried_on}
use Rattle.soundness.proofs.Changing.{loaded_most, load_keeps}
use Rattle.soundness.proofs.Copying.{among}
use Rattle.soundness.proofs.Induction.{carried_within_peak, carried_on_acquired, peak_room}
use Rattle.soundness.specs.Operations.{RunLeaves, held_at, Stay, FieldsStay, SoundFor, Stored, Loaded, Shared, Erased, OperationsDoWhatTheyName, OperationsDoWhatTheyNameOnAcquired}

-- what a tree keeps stays
stays : {G : Shape} {N : ℕ} {P Q : ℕ → Type 0} (c d : Config) → Placed G N c → Keeps P c d → ((l : ℕ) → Q l → P l) → Stay G Q c.state d.state
stays c d p k f = record { operands = λ l q. k.kept l (f l q); stack = λ i n. k.beside_kept i (λ l a b. n l a (omega (arith, p.deep))); depth = k.depth_kept; size = k.size_kept }

-- all values but one
rest_of_rest : (n : ℕ) (vs : Values) → rest_of 1 (rest_of n vs) ≡ rest_of (suc n) vs
rest_of_rest zero vs = refl
rest_of_rest (suc n) nil = refl
rest_of_rest (suc n) (cons v vs) = rest_of_rest n vs

module _ (G : Shape) (sup : Supported G) where
  -- what represents values is sound for their variables
  sound_for : {M : Memory} {frontier : ℕ} {variables : List Cell} {vs : Values} (blocks : ℕ) → frontier < blocks → Represents (object_sizes G) (L G) M frontier variables vs → SoundFor G blocks M variables vs
  sound_for {M} {frontier} {variables} {vs} blocks h r = record {
    frontier = frontier;
    frontier_there = h;
    sound = sound r.consistent;
    holds = held_plainly (object_sizes G) M.fields r.linked vs variables r.holds;
    links = record { linked = r.linked; one_pointer = λ b nz l. omega (arith, r.consistent.one_pointer b nz l, sound_refs r.consistent b); holds = r.holds };
  }

  -- no block begins at 0
  headers_null : (m : ℕ → ℕ) → headers G.fields m 0 ≡ 0
  unfolding headers by_address
  headers_null m = rw (ne_eqb (address_of G.fields (block_number G.fields 0)) 0 (λ e. omega arith))

  module _ (words : ℕ → ℕ) {blocks bound : ℕ} {past : List HeapState} {ch : Channel} {vs : Values} (f : Carried G blocks bound past ch vs) (fits : bound ≤ blocks) (two : 2 ≤ blocks) (counter : ℕ) where
    abbrev K : ℕ
    K = count_of vs

    abbrev C : Config
    C = starting ch.view

    abbrev E : ℕ → Bool
    E = ext_at ch.context

    -- the run of a tree's bytes leaves what the tree does
    leaves : {t : Tree} {Left : View → Type 0} → Formed t → counter + labels t ≤ last_label → size t ≤ 65536 → Does words t C (λ d. (d.calls ≡ []) × Left d.state) → RunLeaves G words ch t counter Left
    leaves {t} {Left} w l m d =
        let r = ends G counter w l m (heap_ok_lem G blocks ch.view f.placed two) d in
        record {
          steps = r.steps;
          within = r.within;
          ended = ap (λ (x : Done). x.answer) r.run;
          calls = ap (λ (x : Done). x.last.calls) r.run ∙ r.post.0;
          left = subst (λ (x : Done). Left x.last.state) (sym r.run) r.post.1;
        }

    low : f.frontier ≤ blocks
    low = omega (arith, f.low)

    -- variable a, linked, and those before it and behind
    module _ (a : ℕ) (ak : a < K) (linked : E a ≡ false) where
      abbrev P : ℕ
      P = held_at ch.view (2 * a)

      abbrev X : List Cell
      X = variables E C 0 a

      abbrev Y : List Cell
      Y = variables E C (suc a) (K - suc a)

      fst_held : (variable E C a).fst ≡ P
      fst_held = rw linked

      split_there : Represents (object_sizes G) (L G) (heap_of G C) f.frontier (X ++ (variable E C a ∷ Y)) vs
      split_there = rw (among E C a K ak) at f.represents

      shared : (n : ℕ) (d : Config) → Share (replicate n (variable E C a).fst) (headers G.fields C.state.mem) (headers G.fields d.state.mem) → heap_of G d ≡ with_headers (heap_of G C) (headers G.fields d.state.mem)
          → Keeps (λ x. x ≢ 1) C d → FieldsStay G ch.view d.state → Shared G blocks past ch vs a n d.state
      shared n d sh h k same =
          let s : Share (replicate n P) (headers G.fields C.state.mem) (headers G.fields d.state.mem) = rw fst_held at sh in
          record {
            counted = λ nz. omega (arith, s P nz, occ_replicate n P);
            elsewhere = λ b o. other b o s (ℕ_discrete b 0);
            fields_kept = same;
            others = stays C d f.placed k (λ l o. o);
            sound = subst (λ (w : Value). SoundFor G blocks (heap_of G d) (variables E C 0 K ++ replicate n (variable E C a)) (appended vs (copies n w))) (ap (λ (x : ℕ). value_at x vs) (variables_length E C 0 a))
                (rw (h, among E C a K ak) (sound_for blocks (omega (arith, f.low)) (represents_copy X Y (variable E C a) n (headers G.fields d.state.mem) sh split_there)));
          }
        where
          other : (b : ℕ) → b ≢ P → Share (replicate n P) (headers G.fields C.state.mem) (headers G.fields d.state.mem) → Dec (b ≡ 0) → headers G.fields d.state.mem b ≡ headers G.fields C.state.mem b
          other b o s (yes z) = rw z (headers_null d.state.mem ∙ sym (headers_null C.state.mem))
          other b o s (no nz) = omega (arith, s b nz, occ_replicate_other n P b o)

      pub share_leaves : (room n : ℕ) → accepted (share_answer G counter room (location (2 * a)) n) ≡ true → RunLeaves G words ch (share_block G (location (2 * a)) n) counter (Shared G blocks past ch vs a n)
      share_leaves room n e =
          let g = share_granted G counter room (location (2 * a)) n e in
          leaves (formed_share G sup (location (2 * a)) (omega (arith, g.0))) g.1 (omega (arith, (share_size G (location (2 * a)) n).1))
          (so (share_performs words E C K a n f.placed low ak f.few g.0 linked f.represents) (λ d x. (x.2.calls_kept, shared n d x.0 x.1 x.2 x.3)))

      erased : (d : Config) → PointerErased G E C a d → Erased G blocks past ch vs a d.state
      erased d x =
          let rep = split_there in
          let c : Consistent (L G) (heap_of G C) rep.linked f.frontier ((variable E C a).fst ∷ pointers (X ++ Y))
          = consistent_same_roots ((variable E C a).fst ∷ pointers (X ++ Y)) (λ b nz. omega (arith, occ_pointers b X (variable E C a ∷ Y), occ_pointers b X Y)) rep.consistent in
          let front : HoldAllApart (object_sizes G) (heap_of G C).fields rep.linked (first_of (length X) vs) X = hold_first (object_sizes G) (heap_of G C).fields rep.linked X (variable E C a ∷ Y) vs rep.holds in
          let back : HoldAllApart (object_sizes G) (heap_of G C).fields rep.linked (rest_of 1 (rest_of (length X) vs)) Y
          = hold_rest (object_sizes G) (heap_of G C).fields rep.linked (variable E C a ∷ []) Y (rest_of (length X) vs) (hold_rest (object_sizes G) (heap_of G C).fields rep.linked X (variable E C a ∷ Y) vs rep.holds) in
          let all : HoldAllApart (object_sizes G) (heap_of G C).fields rep.linked (appended (first_of (length X) vs) (rest_of 1 (rest_of (length X) vs))) (X ++ Y)
          = hold_joined (object_sizes G) (heap_of G C).fields rep.linked (first_of (length X) vs) (rest_of 1 (rest_of (length X) vs)) X Y front back in
          let others : Represents (object_sizes G) (L G) (with_lazy (heap_of G C) (headers G.fields d.state.mem) (d.state.reg 3)) f.frontier (X ++ Y) (appended (first_of a vs) (rest_of (suc a) vs))
          = record { linked = rep.linked; consistent = drop_consistent (headers G.fields d.state.mem) (d.state.reg 3) x.0 c; holds = rw (variables_length E C 0 a, rest_of_rest a vs) at all } in
          record {
            erased = rw fst_held at x.0;
            fields_kept = x.3;
            others = stays C d f.placed x.2 (λ l o. o);
            sound = rw x.1 (sound_for blocks (omega (arith, f.low)) others);
          }

      pub erase_leaves : (room : ℕ) → accepted (erase_answer G counter room (location (2 * a))) ≡ true → RunLeaves G words ch (erase_block G (location (2 * a))) counter (Erased G blocks past ch vs a)
      erase_leaves room e =
          leaves (formed_erase G sup (location (2 * a))) (erase_granted G counter room (location (2 * a)) e) (omega (arith, (erase_size G (location (2 * a))).1))
          (so (erase_performs words E C K a f.placed low ak f.few linked f.represents) (λ d x. (x.2.calls_kept, erased d x)))

    -- ---- store

    stored_asked : (n : ℕ) → n ≤ K → 2 * (K - n) + 2 < positions G → cond (eqb n 0) (2 * K + 2) (2 * K) ≤ positions G
    stored_asked zero l h = omega arith
    stored_asked (suc n) l h = rw (ne_eqb (suc n) 0 (λ z. omega arith)) (omega (arith, f.few))

    -- n variables, with room below a bound of the frontier after them
    module _ (n : ℕ) (there : n ≤ K) (bound' : ℕ) (grows : bound ≤ bound') (enough : bound' ≤ blocks) (roomy : Room G ch vs (Store n 0) bound') where
      abbrev R : ℕ
      R = K - n

      abbrev after_store : List ℕ
      after_store = take (8 * R) ch.context ++ made Linked R

      front_long : length (take (8 * R) ch.context) ≡ 8 * R
      front_long = length-take-le (8 * R) ch.context (omega (arith, (good_length ch.context f.places).0))

      new_linked : ext_at after_store R ≡ false
      new_linked = let z : R + 0 ≡ R = omega arith in rw z at (ext_right (take (8 * R) ch.context) (made Linked R) R front_long 0) ∙ ext_made Linked R

      stored_count : (tag : ℕ) → count_of (plainly (Store n tag) vs) ≡ suc R
      unfolding plainly
      stored_count tag = count_joined (first_of R vs) (cons (object tag (rest_of R vs)) nil) ∙ ap (λ (m : ℕ). m + 1) (count_first R vs (omega arith)) ∙ plus_one R
        where
          plus_one : (m : ℕ) → m + 1 ≡ suc m
          plus_one m = omega arith

      store_performed : (d : Config) → StoredFrom G E C R n d → 2 * R + 2 < positions G → Performed G blocks C (store n (held d (location (2 * R + 1)))) E (ext_at after_store) K (suc R) d
      store_performed d x lt =
          let tag : ℕ = held d (location (2 * R + 1)) in
          let e : R + n ≡ K = omega arith in
          let g = location_free (2 * R) in
          let vars : variables (ext_at after_store) d 0 (suc R) ≡ variables E C 0 R ++ (cell (held d (location (2 * R))) tag ∷ [])
          = tagged E (ext_at after_store) C d d R tag (λ y l. ext_left (take (8 * R) ch.context) (made Linked R) R front_long y l ∙ ext_take ch.context R y l) new_linked x.1 refl keeps_refl in
          record {
            performs = rw vars (rw e at (x.0 tag));
            placed = placed_keeps ((omega arith, omega arith, omega arith), omega (arith, g.0)) x.1 f.placed;
            quiet = x.1.calls_kept;
          }

      store_sound : (d : Config) → StoredFrom G E C R n d → 2 * R + 2 < positions G
          → SoundAt G blocks (state_of G ch vs ∷ past) (record { context = after_store; view = d.state }) (plainly (Store n (held d (location (2 * R + 1)))) vs)
      unfolding context_after present asked
      store_sound d x lt =
          let tag : ℕ = held d (location (2 * R + 1)) in
          let p = stored_asked n there lt in
          let l = le-leb n K there in
          let did = subst (λ (j : ℕ). Performed G blocks C (store n tag) E (ext_at after_store) K j d) (sym (stored_count tag)) (store_performed d x lt) in
          let c = context_after_lem ch.context [] K vs refl f.places f.kinds (positions G) (Store n tag) (omega (arith, f.placed.shape.frame)) good_none l p tt in
          let w = count_within ch.context [] K vs refl (positions G) (most_variables G) (Store n tag) (omega arith) (omega (arith, f.few)) l p tt in
          let b = bounded_by_room G f [] (Store n tag) refl (tt, tt) after_store bound' grows roomy d did in
          sound_at G (carried_on G f [] (Store n tag) refl (tt, tt) after_store bound' c.0 c.1 (omega (arith, w, f.placed.shape.even)) d did b) enough

      stored : (d : Config) → StoredFrom G E C R n d → (n ≡ 0 → (held d (location (2 * K)) ≡ 0) × (heap_of G d ≡ heap_of G C)) → Stored G blocks past ch vs n d.state
      stored d x none = record {
        sound = λ there. let snd : 2 * R + 1 < positions G = there in store_sound d x (omega (arith, f.placed.shape.even));
        none = none;
        others = stays C d f.placed x.1 (λ l q.
            let g = location_grows q.0 (2 * R) q.1 in
            rw q.2 ((omega (arith, g.0), omega (arith, g.0), omega (arith, g.0)), g.1));
      }

    store_does : (n : ℕ) → n ≤ K → (bound' : ℕ) → bound ≤ bound' → bound' ≤ blocks → Room G ch vs (Store n 0) bound' → Does words (store_object G E (K - n) n) C (λ d. (d.calls ≡ []) × Stored G blocks past ch vs n d.state)
    store_does zero l bound' grows enough roomy =
        let z : K - 0 ≡ K = omega arith in
        so (store_none_lem words E C (K - 0) f.placed (omega (arith, f.few))) (λ d x. (x.0.1.calls_kept, stored 0 l bound' grows enough roomy d x.0 (λ y. (rw z at x.2, x.1))))
    store_does (suc n) l bound' grows enough roomy =
        let e : K - suc n + suc n ≡ K = omega arith in
        let rep : Represents (object_sizes G) (L G) (heap_of G C) f.frontier (variables E C 0 (K - suc n + suc n)) vs = rw e f.represents in
        so (store_performs words E C (K - suc n) f.placed (suc n) (omega (arith, f.few)) (λ count k. omega (arith, roomy count (rw e at k))) (omega (arith, f.low)) rep)
        (λ d x. (x.1.calls_kept, stored (suc n) l bound' grows enough roomy d x (λ z. absurd (omega arith))))

    pub store_leaves : (room n bound' : ℕ) → bound ≤ bound' → bound' ≤ blocks → Room G ch vs (Store n 0) bound' → accepted (store_answer G counter room ch.context n) ≡ true → RunLeaves G words ch (store_tree G ch.context n) counter (Stored G blocks past ch vs n)
    store_leaves room n bound' grows enough roomy e =
        let g = store_granted G counter room ch.context K n f.places e in
        let kinds : ext_in ch.context 0 ≡ E = fun_ext (ext_in_whole ch.context) in
        let is : store_tree G ch.context n ≡ store_object G E (K - n) n
        = ap (λ (x : ℕ → Bool). store_object G x (places_in ch.context - n) n) kinds ∙ ap (λ (k : ℕ). store_object G E (k - n) n) (places_are ch.context K f.places) in
        subst (λ (t : Tree). RunLeaves G words ch t counter (Stored G blocks past ch vs n)) (sym is)
        (leaves (formed_store G sup E (K - n) n) (subst (λ (t : Tree). counter + labels t ≤ last_label) is g.2) (omega (arith, (store_object_size G E sup (K - n) n).1, f.few, g.0, sup.frame)) (store_does n g.0 bound' grows enough roomy))

    -- ---- load

    -- an object is the last variable's value, so there is one, and it is linked
    last_there : (bindings : List ℕ) (n : ℕ) (ws : Values) → AsStored bindings n (value_at (count_of ws - 1) ws) → 0 < count_of ws
    last_there bindings n nil a = absurd a
    last_there bindings n (cons v ws) a = omega arith

    object_linked : (bindings : List ℕ) (n : ℕ) (v : Value) → AsStored bindings n v → is_integer v ≡ false
    object_linked bindings n (integer w) a = absurd a
    object_linked bindings n (object tag ws) a = refl

    -- where its variables have positions
    loaded_asked : (v n : ℕ) → load_fits G v n ≡ true → cond (eqb n 0) 0 (2 * (v + n)) ≤ positions G
    loaded_asked v zero e = omega arith
    loaded_asked v (suc n) e = rw (ne_eqb (suc n) 0 (λ z. omega arith)) (by (rw (ne_eqb (suc n) 0 (λ z. omega arith)) at e))
      where
        by : ltb (2 * (v + suc n) - 1) (positions G) ≡ true → 2 * (v + suc n) ≤ positions G
        by q = omega (arith, ltb-true (2 * (v + suc n) - 1) (positions G) q)

    module _ (bindings : List ℕ) (good : checked_context bindings ≡ Ok (places_in bindings)) (fitting : load_fits G (K - 1) (places_in bindings) ≡ true)
        (owed : AsStored bindings (places_in bindings) (value_at (K - 1) vs)) where
      abbrev N : ℕ
      N = places_in bindings

      abbrev after_load : List ℕ
      after_load = take (8 * (K - 1)) ch.context ++ bindings

      some : 0 < K
      some = last_there bindings N vs owed

      last_linked : E (K - 1) ≡ false
      last_linked =
          let z : 0 + (K - 1) ≡ K - 1 = omega arith in
          rw z at (kinds_at E 0 vs (K - 1) f.kinds (omega (arith, some))) ∙ object_linked bindings N (value_at (K - 1) vs) owed

      load_sound : (d : Config) → Performed G blocks C (load N) E (ext_at after_load) K (count_of (plainly (Load N) vs)) d
          → SoundAt G blocks (state_of G ch vs ∷ past) (record { context = after_load; view = d.state }) (plainly (Load N) vs)
      unfolding context_after present asked
      load_sound d did =
          let p = loaded_asked (K - 1) N fitting in
          let l = lt-ltb 0 K some in
          let c = context_after_lem ch.context bindings K vs refl f.places f.kinds (positions G) (Load N) (omega (arith, f.placed.shape.frame)) good l p owed in
          let w = count_within ch.context bindings K vs refl (positions G) (most_variables G) (Load N) (omega arith) (omega (arith, f.few)) l p owed in
          let b = bounded_by_room G f bindings (Load N) refl (owed, tt) after_load bound (omega arith) (λ count k. let low = f.low in omega (arith, reachable_below f.represents.consistent k)) d did in
          sound_at G (carried_on G f bindings (Load N) refl (owed, tt) after_load bound c.0 c.1 (omega (arith, w, f.placed.shape.even)) d did b) fits

      load_does : Does words (load_object G (ext_in bindings (K - 1)) (K - 1) N) C (λ d. (d.calls ≡ []) × Loaded G blocks past ch vs bindings d.state)
      unfolding tree_of context_after
      load_does =
          so (load_keeps G words f bindings low N (K - 1) (omega (arith, some)) last_linked (loaded_most G f.placed.shape (K - 1) N (omega (arith, f.few)) (loaded_asked (K - 1) N fitting)) owed)
          (λ d x. (
            x.0.quiet,
            record {
              sound = load_sound d x.0;
              others = stays C d f.placed x.1 (λ l q.
                  let g = location_grows q.0 (2 * (K - 1)) q.1 in
                  rw q.2 (omega (arith, g.0), omega (arith, g.0), g.2, g.1));
            },
          ))

    pub load_leaves : (room : ℕ) (bindings : List ℕ) → AsStored bindings (places_in bindings) (value_at (K - 1) vs) → accepted (load_answer G counter room bindings (take (8 * (K - 1)) ch.context)) ≡ true
        → RunLeaves G words ch (load_tree G bindings (take (8 * (K - 1)) ch.context)) counter (Loaded G blocks past ch vs bindings)
    load_leaves room bindings owed e =
        let front = good_take ch.context (K - 1) f.places (omega arith) in
        let g = load_granted G counter room bindings (take (8 * (K - 1)) ch.context) (K - 1) front e in
        let n : places_in bindings ≡ g.0 = places_are bindings g.0 g.1 in
        let good : checked_context bindings ≡ Ok (places_in bindings) = g.1 ∙ ap Ok (sym n) in
        let fitting : load_fits G (K - 1) (places_in bindings) ≡ true = ap (load_fits G (K - 1)) n ∙ g.2 in
        let labelled : counter + labels (load_object G (ext_in bindings (K - 1)) (K - 1) (places_in bindings)) ≤ last_label
        = subst (λ (m : ℕ). counter + labels (load_object G (ext_in bindings (K - 1)) (K - 1) m) ≤ last_label) (sym n) g.3 in
        let most = loaded_most G f.placed.shape (K - 1) (places_in bindings) (omega (arith, f.few)) (loaded_asked (K - 1) (places_in bindings) fitting) in
        subst (λ (v : ℕ). RunLeaves G words ch (load_object G (ext_in bindings v) v (places_in bindings)) counter (Loaded G blocks past ch vs bindings)) (sym (places_are (take (8 * (K - 1)) ch.context) (K - 1) front))
        (leaves (formed_load G sup (ext_in bindings (K - 1)) (K - 1) (places_in bindings)) labelled (omega (arith, (object_size G (ext_in bindings (K - 1)) sup (K - 1) (places_in bindings)).1, sup.frame)) (load_does bindings good fitting owed))

pub operations_do_what_they_name : OperationsDoWhatTheyName
unfolding OperationsDoWhatTheyName
operations_do_what_they_name g sup blocks peak its h enough most w words counter room =
    let f = carried_within_peak g sup blocks peak its h enough most w in
    let two : 2 ≤ blocks = omega arith in
    let all : blocks ≤ blocks = omega arith in
    record {
      stores = λ n roomy e. store_leaves g sup words f all two counter room n blocks all all (peak_room g sup blocks most peak (Store n 0) its enough roomy f) e;
      loads = λ loaded owed e. load_leaves g sup words f all two counter room loaded owed e;
      shares = λ a n there linked e. share_leaves g sup words f all two counter a there linked room n e;
      erases = λ a there linked e. erase_leaves g sup words f all two counter a there linked room e;
    }

pub operations_do_what_they_name_on_acquired : OperationsDoWhatTheyNameOnAcquired
unfolding OperationsDoWhatTheyNameOnAcquired
operations_do_what_they_name_on_acquired g sup blocks its h most w words counter room =
    let f = carried_on_acquired g sup blocks its h most w in
    let two : 2 ≤ blocks = omega arith in
    record {
      stores = λ n enough e. store_leaves g sup words f h two counter room n (2 + (length (object_sizes g n) + acquired g blocks its)) (omega arith) enough
          (λ count k. let low = f.low in omega (arith, reachable_below f.represents.consistent k)) e;
      loads = λ loaded owed e. load_leaves g sup words f h two counter room loaded owed e;
      shares = λ a n there linked e. share_leaves g sup words f h two counter a there linked room n e;
      erases = λ a there linked e. erase_leaves g sup words f h two counter a there linked room e;
    }
