-- One block of an object loaded: its values and the link into variables, the block released or its pointers shared.
-- Where the block's address lies in a spill, register 4 is borrowed; what is said then is about the configuration with register 4 restored.
use mathlib.Core.Bool.{Bool, true, false, cond}
use mathlib.Core.List.{List}
use mathlib.Core.Logic.{◌≢◌}
use mathlib.Core.Path.{◌≡◌, refl, sym, ◌∙◌, ap}
use Prim.Native.Nat.{ℕ, ◌+◌, ◌-◌, ◌*◌, ◌≤◌, ◌<◌}
use native.Mathlib.Decide.{ℕ_discrete}
use native.Mathlib.Omega.{arith}
use lib.Dec.{ltb}
use borrow.Author.Tests.{ltb-true, ltb-false}
use Rattle.records.specs.declared.code.Code.TheVariants.{MOVS, MOVL}
use Rattle.records.proofs.Conditions.{never}
use Rattle.trees.specs.Tree.{Tree, nop, leaf, seq}
use Rattle.layout.specs.declared.config.Shape.{Shape}
use Rattle.layout.specs.Config.{block_words, link_word, positions, fst_offset, stack_offset}
use Rattle.layout.specs.Positions.{location}
use Rattle.layout.specs.Frame.{stack_word}
use Rattle.machine_step.specs.Step.{Config}
use Rattle.machine_step.specs.View.{upd}
use Rattle.memory.specs.Objects.{load_link, capacity, restore, load_values, load_body, load_block}
use Rattle.heap.specs.Blocks.{pointers}
use Rattle.heap.proofs.WordLemmas.{cells_agree}
use Rattle.heap.specs.Words.{word_at}
use Rattle.layout_proof.specs.Held.{held, Keeps, Placed}
use Rattle.layout_proof.proofs.Operands.{with_register, with_spill, with_heap, block_address}
use Rattle.layout_proof.proofs.HeldLemmas.{upd_other, held_register, register_other, register_same, spill_other, spill_same, keeps_refl, keeps_trans, keeps_sub, keeps_put, keeps_register, placed_keeps, in_frame, location_low, location_high, location_fits, location_apart, location_free, position_low, position_high}
use Rattle.layout_proof.proofs.RecordLemmas.{register_MOV, block_MOVS, spill_MOVL, spill_MOVS}
use Rattle.layout_proof.proofs.Runs.{Does, one, then, go, so}
use Rattle.memory_proof.proofs.Loading.{Counted, idle, more_of, MayShare, Outside, as_variables, shown_by, load_field_lem, load_values_lem}
use Rattle.memory_proof.proofs.Sharing.{Counts}
use Rattle.memory_proof.proofs.Shown.{head_fields}
use Rattle.memory_proof.proofs.Variables.{variables, variables_kept}

-- what loading the block j does to the words and to HEAP
pub data AfterBlock (G : Shape) (j : ℕ) (ps : List ℕ) (m : ℕ → ℕ) (heap : ℕ) : Bool → (ℕ → ℕ) → ℕ → Type 0 where
  released : {m' : ℕ → ℕ} {heap' : ℕ} → m' ≡ upd m (word_at G.fields j 0) heap → heap' ≡ block_address G j → AfterBlock G j ps m heap false m' heap'
  counted : {m' : ℕ → ℕ} {heap' : ℕ} → Counts G ps m m' → heap' ≡ heap → AfterBlock G j ps m heap true m' heap'

-- not among k variables from v on, HEAP, or the place of the link
abbrev pub Far : ℕ → ℕ → ℕ → Type 0
Far v k x = Outside v k x × (x ≢ 2) × (x ≢ location (2 * (v + k)))

-- and not the spill that holds register 4
abbrev pub Aside : ℕ → ℕ → ℕ → Type 0
Aside v k x = Far v k x × (x ≢ 16)

module _ (G : Shape) (ext : ℕ → Bool) where
  -- k variables from v on hold the values of block j, and with `other` the one after them the link
  pub record BlockLoaded (P : ℕ → Type 0) (sh other : Bool) (v k j : ℕ) (s r : Config) : Type 0 where
    pub vals : variables ext r v k ≡ shown_by G ext v k s.state.mem j (capacity G other)
    pub went : AfterBlock G j (pointers (shown_by G ext v k s.state.mem j (capacity G other))) s.state.mem (s.state.reg 2) sh r.state.mem (r.state.reg 2)
    pub link : other ≡ true → held r (location (2 * (v + k))) ≡ s.state.mem (word_at G.fields j (link_word G))
    pub keeps : Keeps P s r

-- the configuration with register 4 read from spill 0, where a load has borrowed it
abbrev pub restored : Bool → Config → Config
restored true s = with_register s 4 (held s 16)
restored false s = s

module _ (G : Shape) (ext : ℕ → Bool) where
  -- a block whose address lies in a spill, after register 4 is set aside
  abbrev spill_rest : Bool → Bool → ℕ → ℕ → Tree
  spill_rest sh other v k = seq (leaf (MOVL 4 0 (stack_offset G (location (2 * v)))) refl) (seq (load_body G ext sh other v k 4) (restore G other))

module _ {G : Shape} (words : ℕ → ℕ) (ext : ℕ → Bool) where
  link_and_values : {N : ℕ} (sh other : Bool) (s : Config) (v k b j K : ℕ) → Placed G N s → s.state.reg b ≡ block_address G j → j < N → b < 16 → b ≢ 1 → ((p : ℕ) → 2 * v < p → p ≤ 2 * (v + k) → location p ≢ b) → k ≤ capacity G other → 1 ≤ k → 2 * (v + k) < positions G
      → k ≤ K → MayShare G sh N K s.state.mem (pointers (shown_by G ext v k s.state.mem j (capacity G other)))
      → Does words (seq (load_link G other (v + k) b) (load_values G ext sh v k (capacity G other) b)) s
      (λ r. (variables ext r v k ≡ shown_by G ext v k s.state.mem j (capacity G other)) × Counted G sh (pointers (shown_by G ext v k s.state.mem j (capacity G other))) s.state.mem r.state.mem × (other ≡ true → held r (location (2 * (v + k))) ≡ s.state.mem (word_at G.fields j (link_word G)))
      × Keeps (λ x. Outside v k x × (x ≢ location (2 * (v + k)))) s r)
  link_and_values sh true s v k b j K en p h b16 b1 ne kf k1 vk kk f =
      let c = location_fits G (2 * (v + k)) (omega arith) in
      then (load_field_lem words s (location (2 * (v + k))) b j (fst_offset (G.fields - 1)) (link_word G) en p h (omega arith) (omega (arith, en.shape.some)) c.0 c.1) (λ r d.
      let g : r.state.mem ≡ s.state.mem = d.2 in
      so (load_values_lem words ext sh r v k (G.fields - 1) b j K (placed_keeps (omega arith, omega (arith, c.0)) d.3 en) (λ _. keeps_register d.3 b b16 (b1, λ z. ne (2 * (v + k)) (omega arith) (omega arith) (sym z)) ∙ p) h b16 b1 (λ x a z. ne x a (omega arith)) kf (omega arith) vk kk (rw g f)) (λ u e. (
        e.0 ∙ rw g refl,
        rw g at e.1,
        (λ _. e.2.kept (location (2 * (v + k))) (omega (arith, c.0), λ x a z. location_apart (2 * (v + k)) x (omega arith)) ∙ d.0),
        keeps_trans (keeps_sub (λ x y. (y.0.0, y.1)) d.3) (keeps_sub (λ x y. y.0) e.2),
      )))
  link_and_values sh false s v k b j K en p h b16 b1 ne kf k1 vk kk f =
      go refl (so (load_values_lem words ext sh s v k G.fields b j K en (λ _. p) h b16 b1 (λ x a z. ne x a (omega arith)) kf (omega arith) vk kk f) (λ u e.
      (e.0, e.1, never, keeps_sub (λ x y. y.0) e.2)))

  pub load_body_lem : {N : ℕ} (sh other : Bool) (s : Config) (v k b j K : ℕ) → Placed G N s → s.state.reg b ≡ block_address G j → j < N → b < 16 → b ≢ 1 → b ≢ 2 → ((p : ℕ) → 2 * v < p → p ≤ 2 * (v + k) → location p ≢ b) → k ≤ capacity G other → 1 ≤ k → 2 * (v + k) < positions G
      → k ≤ K → MayShare G sh N K s.state.mem (pointers (shown_by G ext v k s.state.mem j (capacity G other)))
      → Does words (load_body G ext sh other v k b) s (λ r. BlockLoaded G ext (Far v k) sh other v k j s r)
  load_body_lem true other s v k b j K en p h b16 b1 b2 ne kf k1 vk kk f =
      go refl (so (link_and_values true other s v k b j K en p h b16 b1 ne kf k1 vk kk f) (λ r d.
      record {
        vals = d.0;
        went = by d.1 (keeps_register d.3 2 (omega arith) ((omega arith, λ x a z. omega (arith, (location_free x).0)), omega (arith, (location_free (2 * (v + k))).0)));
        link = d.2;
        keeps = keeps_sub (λ x y. (y.0, y.2)) d.3;
      }))
    where
      by : {ps : List ℕ} {m' : ℕ → ℕ} {heap' : ℕ} → Counted G true ps s.state.mem m' → heap' ≡ s.state.reg 2 → AfterBlock G j ps s.state.mem (s.state.reg 2) true m' heap'
      by (more_of c) e = counted c e
  load_body_lem false other s v k b j K en p h b16 b1 b2 ne kf k1 vk kk f =
      let m₁ : ℕ → ℕ = upd s.state.mem (word_at G.fields j 0) (s.state.reg 2) in
      let s₁ : Config = with_register (with_heap s (word_at G.fields j 0) (s.state.reg 2)) 2 (s.state.reg b) in
      let k₁ : Keeps (λ x. x ≢ 2) s s₁ = keeps_put 2 (s.state.reg b) (λ x y. y) keeps_refl in
      let agree : shown_by G ext v k m₁ j (capacity G other) ≡ shown_by G ext v k s.state.mem j (capacity G other)
      = ap (as_variables ext v) (cells_agree G.fields s.state.mem m₁ j (capacity G other - k) k (λ y a e. head_fields G s.state.mem j (s.state.reg 2) j y (omega arith) (lt8 other y e kf))) in
      then {Q = λ r. r ≡ s₁} (go (block_MOVS words s en b j 0 0 p h refl (omega arith) 2) (one (register_MOV words (with_heap s (word_at G.fields j 0) (s.state.reg 2)) 2 b) refl)) (λ r q. rw q
      (so (link_and_values false other s₁ v k b j K en (upd_other s.state.reg 2 (s.state.reg b) b b2 ∙ p) h b16 b1 ne kf k1 vk kk (record { each = never })) (λ u d.
      record {
        vals = d.0 ∙ agree;
        went = by d.1 (keeps_register d.3 2 (omega arith) ((omega arith, λ x a z. omega (arith, (location_free x).0)), omega (arith, (location_free (2 * (v + k))).0)) ∙ p);
        link = λ z. d.2 z ∙ upd_other s.state.mem (word_at G.fields j 0) (s.state.reg 2) (word_at G.fields j (link_word G)) (omega arith);
        keeps = keeps_trans (keeps_sub (λ x y. y.1) k₁) (keeps_sub (λ x y. (y.0, y.2)) d.3);
      })))
    where
      lt8 : (o : Bool) (y : ℕ) → y < 2 + 2 * (capacity G o - k + k) → k ≤ capacity G o → y < block_words G
      lt8 true y a b = omega arith
      lt8 false y a b = omega arith

      by : {ps qs : List ℕ} {m' : ℕ → ℕ} {heap' : ℕ} → Counted G false qs (upd s.state.mem (word_at G.fields j 0) (s.state.reg 2)) m' → heap' ≡ block_address G j → AfterBlock G j ps s.state.mem (s.state.reg 2) false m' heap'
      by (idle c) e = released c e

  module _ {N : ℕ} (sh other : Bool) (v k j K : ℕ) (h : j < N) (kf : k ≤ capacity G other) (k1 : 1 ≤ k) (vk : 2 * (v + k) < positions G) (kk : k ≤ K) where
    load_spilled_lem : (s : Config) → 12 ≤ 2 * v → Placed G N s → held s (location (2 * v)) ≡ block_address G j → MayShare G sh N K s.state.mem (pointers (shown_by G ext v k s.state.mem j (capacity G other)))
        → Does words (spill_rest G ext sh other v k) s (λ r. BlockLoaded G ext (Aside v k) sh other v k j (restored true s) (restored other r))
    load_spilled_lem s v6 en p f =
        let hi : location (2 * v) ≡ 2 * v + 5 = location_high (2 * v) v6 in
        let c = location_fits G (2 * v) (omega arith) in
        let s₂ : Config = with_register s 4 (held s (location (2 * v))) in
        go (spill_MOVL words s en (location (2 * v)) (omega arith) c.1 4)
        (then (load_body_lem sh other s₂ v k 4 j K en p h (omega arith) (omega arith) (omega arith) (λ x a b. omega (arith, location_high x (omega arith))) kf k1 vk kk f) (λ u d. end other u (whole u d)))
      where
        off4 : (u : Config) → Keeps (λ x. x ≢ 4) u (restored true u)
        off4 u = keeps_put 4 (held u 16) (λ x y. y) keeps_refl

        far16 : Far v k 16
        far16 = ((omega arith, λ x a b. λ e. (location_free x).1 (sym e)), omega arith, λ e. (location_free (2 * (v + k))).1 (sym e))

        whole : (u : Config) → BlockLoaded G ext (Far v k) sh other v k j (with_register s 4 (held s (location (2 * v)))) u → Placed G N u × BlockLoaded G ext (Aside v k) sh other v k j (restored true s) (restored true u)
        whole u d =
            let c = location_fits G (2 * v) (omega arith) in
            let z : ℕ = held s (location (2 * v)) in
            let e : Placed G N u = placed_keeps ((omega arith, λ x a b. omega (arith, (location_free x).0)), omega arith, omega (arith, (location_free (2 * (v + k))).0)) d.keeps en in
            let sixteen : held u 16 ≡ held s 16 = d.keeps.kept 16 far16 ∙ register_other s.state.reg s.state.stk 4 z 16 (omega arith) in (
              e,
              record {
                vals = variables_kept ext u (restored true u) v k (λ x a b. omega (arith, location_high x (omega arith))) (off4 u) ∙ d.vals;
                went = d.went;
                link = λ o. register_other u.state.reg u.state.stk 4 (held u 16) (location (2 * (v + k))) (omega (arith, location_high (2 * (v + k)) (omega arith))) ∙ d.link o;
                keeps = record { depth_kept = d.keeps.depth_kept; size_kept = d.keeps.size_kept; calls_kept = d.keeps.calls_kept; kept = λ l y. by l y sixteen (ℕ_discrete l 4); beside_kept = d.keeps.beside_kept };
              },
            )
          where
            by : (l : ℕ) → Aside v k l → held u 16 ≡ held s 16 → Dec (l ≡ 4) → held (restored true u) l ≡ held (restored true s) l
            by l y q (yes t) = rw t (register_same u.state.reg u.state.stk 4 (held u 16) (omega arith) ∙ q ∙ sym (register_same s.state.reg s.state.stk 4 (held s 16) (omega arith)))
            by l y q (no t) =
                register_other u.state.reg u.state.stk 4 (held u 16) l t ∙ d.keeps.kept l y.0 ∙ register_other s.state.reg s.state.stk 4 (held s (location (2 * v))) l t ∙ sym (register_other s.state.reg s.state.stk 4 (held s 16) l t)

        end : (o : Bool) (u : Config) → Placed G N u × BlockLoaded G ext (Aside v k) sh other v k j (restored true s) (restored true u) → Does words (cond o nop (leaf (MOVL 4 0 (stack_offset G 16)) refl)) u (λ r. BlockLoaded G ext (Aside v k) sh other v k j (restored true s) (restored o r))
        end true u d = one refl d.1
        end false u d = one (spill_MOVL words u d.0 16 (omega arith) (omega arith) 4) d.1

    pub load_block_lem : (fr : Bool) (s : Config) → (fr ≡ true → 12 ≤ 2 * v) → Placed G N s → held (restored fr s) (location (2 * v)) ≡ block_address G j → MayShare G sh N K s.state.mem (pointers (shown_by G ext v k s.state.mem j (capacity G other)))
        → Does words (load_block G ext sh other fr v k) s (λ r. BlockLoaded G ext (Aside v k) sh other v k j (restored fr s) (restored (cond (ltb (location (2 * v)) 16) false other) r))
    load_block_lem fr s g en p f = by (ltb (location (2 * v)) 16) refl fr g p
      where
        by : (c : Bool) → ltb (location (2 * v)) 16 ≡ c → (fr : Bool) → (fr ≡ true → 12 ≤ 2 * v) → held (restored fr s) (location (2 * v)) ≡ block_address G j
            → Does words (cond c (load_body G ext sh other v k (location (2 * v))) (seq (cond fr nop (leaf (MOVS 4 0 (stack_offset G 16)) refl)) (spill_rest G ext sh other v k))) s (λ r. BlockLoaded G ext (Aside v k) sh other v k j (restored fr s) (restored (cond c false other) r))
        by true e true g p = let a : 2 * v < 12 = position_low (2 * v) (ltb-true (location (2 * v)) 16 e) in absurd (omega (arith, g refl))
        by true e false g p =
            let a : location (2 * v) ≡ 2 * v + 4 = location_low (2 * v) (position_low (2 * v) (ltb-true (location (2 * v)) 16 e)) in
            let b : 2 * v < 12 = position_low (2 * v) (ltb-true (location (2 * v)) 16 e) in
            so (load_body_lem sh other s v k (location (2 * v)) j K en (sym (held_register s.state.reg s.state.stk (location (2 * v)) (omega arith)) ∙ p) h (omega arith) (omega arith) (omega arith) (λ x y z. location_apart x (2 * v) (omega arith)) kf k1 vk kk f) (λ r d.
            record { vals = d.vals; went = d.went; link = d.link; keeps = keeps_sub (λ x y. y.0) d.keeps })
        by false e true g p =
            let b : 12 ≤ 2 * v = position_high (2 * v) (ltb-false (location (2 * v)) 16 e) in
            go refl (load_spilled_lem s b en (sym (register_other s.state.reg s.state.stk 4 (held s 16) (location (2 * v)) (omega (arith, location_high (2 * v) b))) ∙ p) f)
        by false e false g p =
            let b : 12 ≤ 2 * v = position_high (2 * v) (ltb-false (location (2 * v)) 16 e) in
            let s₁ : Config = with_spill s 16 (s.state.reg 4) in
            let q : held s₁ 16 ≡ s.state.reg 4 = spill_same s.state.reg s.state.stk 16 (s.state.reg 4) (omega arith) in
            go (spill_MOVS words s en 16 (omega arith) (omega arith) 4)
            (so (load_spilled_lem s₁ b en (spill_other s.state.reg s.state.stk 16 (s.state.reg 4) (location (2 * v)) (omega arith) (location_free (2 * v)).1 ∙ p) f) (λ r d.
            record {
              vals = d.vals;
              went = d.went;
              link = d.link;
              keeps = keeps_trans (record { depth_kept = refl; size_kept = refl; calls_kept = refl; kept = λ l y. saved l y.1 q (ℕ_discrete l 4); beside_kept = λ i n. upd_other s.state.stk (stack_word 16) (s.state.reg 4) i (n 16 (omega arith) (in_frame 16 en (omega (arith, en.shape.aside)))) }) d.keeps;
            }))
          where
            saved : (l : ℕ) → l ≢ 16 → held (with_spill s 16 (s.state.reg 4)) 16 ≡ s.state.reg 4 → Dec (l ≡ 4) → held (restored true (with_spill s 16 (s.state.reg 4))) l ≡ held s l
            saved l n q (yes t) = rw t (register_same s.state.reg (with_spill s 16 (s.state.reg 4)).state.stk 4 (held (with_spill s 16 (s.state.reg 4)) 16) (omega arith) ∙ q ∙ sym (held_register s.state.reg s.state.stk 4 (omega arith)))
            saved l n q (no t) = register_other s.state.reg (with_spill s 16 (s.state.reg 4)).state.stk 4 (held (with_spill s 16 (s.state.reg 4)) 16) l t ∙ spill_other s.state.reg s.state.stk 16 (s.state.reg 4) l (omega arith) n
