-- Erasing the last variable's pointer performs the drop order; sharing a variable's pointer makes room for its copies.
use mathlib.Core.Bool.{Bool, true, false, cond}
use mathlib.Core.List.{List, [], ◌∷◌, ◌++◌}
use mathlib.Core.Logic.{◌≢◌, inl, inr}
use mathlib.Core.Path.{◌≡◌, refl, sym, ◌∙◌, ap}
use Prim.Native.Nat.{ℕ, suc, ◌+◌, ◌-◌, ◌*◌, ◌≤◌, ◌<◌}
use native.Mathlib.Decide.{ℕ_discrete}
use native.Mathlib.Nat.{zero-add}
use native.Mathlib.Omega.{arith}
use lib.Dec.{ltb}
use lib.ListN.{length, replicate, length-append}
use borrow.Author.Tests.{ltb-true, ltb-false}
use Rattle.records.specs.declared.code.Code.TheVariants.{MOVL}
use Rattle.records.specs.Names.{most_count}
use Rattle.trees.specs.Tree.{leaf, seq}
use Rattle.layout.specs.declared.config.Shape.{Shape}
use Rattle.layout.specs.Config.{operands, positions, stack_offset}
use Rattle.layout.specs.Positions.{location}
use Rattle.machine_step.specs.Step.{Config}
use Rattle.memory.specs.Blocks.{erase_register, erase_block, share_block}
use Rattle.memory.specs.Objects.{object_sizes}
use Rattle.heap.specs.Blocks.{Cell, pointers}
use Rattle.heap.specs.Counting.{occ}
use Rattle.heap.proofs.CountingLemmas.{same_self, occ_pointers, pointers_length}
use Rattle.heap.proofs.Invariant.{Represents}
use Rattle.heap.specs.Operations.{Erase, null, with_headers, with_lazy, Share}
use Rattle.heap.specs.Orders.{drop, Performs, drops}
use Rattle.heap.specs.Reachability.{start}
use Rattle.heap.specs.Values.{Values}
use Rattle.heap.proofs.WordLemmas.{fields_all}
use Rattle.heap.specs.Words.{headers, block_fields}
use Rattle.layout_proof.specs.Held.{held, Keeps, Placed}
use Rattle.layout_proof.proofs.Operands.{with_register}
use Rattle.layout_proof.proofs.HeldLemmas.{location_free, held_register, keeps_refl, keeps_trans, keeps_sub, keeps_put, keeps_register, placed_keeps, location_fits}
use Rattle.layout_proof.proofs.RecordLemmas.{spill_MOVL}
use Rattle.layout_proof.proofs.Runs.{Does, go, so}
use Rattle.memory_proof.proofs.Erasing.{Pointer, erase_does}
use Rattle.memory_proof.proofs.ReachedBlocks.{reachable_block}
use Rattle.memory_proof.proofs.Sharing.{Shareable, share_at}
use Rattle.memory_proof.proofs.Shown.{L, SameFields, heap_of, memory_is}
use Rattle.memory_proof.proofs.Variables.{variable, variables, variables_append, variables_snoc, variables_length, variables_pointers, variables_kept}

-- an integer is dropped without code
pub drop_integer : (G : Shape) (ext : ℕ → Bool) (s : Config) (e : ℕ) → ext e ≡ true → Performs (object_sizes G) (L G) (heap_of G s) drop (variables ext s 0 e ++ (variable ext s e ∷ [])) (heap_of G s) (variables ext s 0 e)
drop_integer G ext s e k = drops (variables ext s 0 e) (variable ext s e) (headers G.fields s.state.mem) (s.state.reg 3) (null (rw k) refl)

-- a variable's pointer is among the roots
among_roots : (ext : ℕ → Bool) (s : Config) (a k : ℕ) → a < k → occ (variable ext s a).fst (pointers (variables ext s 0 k)) ≢ 0
among_roots ext s a k ak =
    let q : ℕ = (variable ext s a).fst in
    let n : k ≡ a + suc (k - suc a) = omega arith in
    let split : variables ext s 0 k ≡ variables ext s 0 a ++ (variable ext s a ∷ variables ext s (suc a) (k - suc a)) = ap (variables ext s 0) n ∙ variables_append ext s 0 a (suc (k - suc a)) ∙ ap (λ (x : ℕ). variables ext s 0 a ++ variables ext s x (suc (k - suc a))) (zero-add a) in
    omega (arith, ap (λ (x : List Cell). occ q (pointers x)) split, occ_pointers q (variables ext s 0 a) (variable ext s a ∷ variables ext s (suc a) (k - suc a)), same_self q)

-- variable a's pointer erased: the heap with other counts and another head of the lazy list, all else but TEMP as it was
abbrev pub PointerErased : Shape → (ℕ → Bool) → Config → ℕ → Config → Type 0
PointerErased G ext s a u =
    Erase (variable ext s a).fst (headers G.fields s.state.mem) (s.state.reg 3) (headers G.fields u.state.mem) (u.state.reg 3)
    × (heap_of G u ≡ with_lazy (heap_of G s) (headers G.fields u.state.mem) (u.state.reg 3))
    × Keeps (λ x. (x ≢ 1) × (x ≢ 3)) s u
    × SameFields G s.state.mem u.state.mem

-- few roots, whatever the context
pub few_roots : (ext : ℕ → Bool) (s : Config) (e : ℕ) → e ≤ 1048575 → length (pointers (variables ext s 0 e ++ (variable ext s e ∷ []))) ≤ 1048576
few_roots ext s e h = omega (arith, pointers_length (variables ext s 0 e ++ (variable ext s e ∷ [])), length-append (variables ext s 0 e) (variable ext s e ∷ []), variables_length ext s 0 e)

module _ {G : Shape} (words : ℕ → ℕ) where
  pub erase_performs : {N m : ℕ} {values : Values} (ext : ℕ → Bool) (s : Config) (k a : ℕ) → Placed G N s → m ≤ N → a < k → 2 * k < positions G → ext a ≡ false
      → Represents (object_sizes G) (L G) (heap_of G s) m (variables ext s 0 k) values
      → Does words (erase_block G (location (2 * a))) s (PointerErased G ext s a)
  erase_performs {N} {m} {values} ext s k a en m_n ak k1 linked rep = by (ltb (location (2 * a)) 16) refl
    where
      fst_held : (variable ext s a).fst ≡ held s (location (2 * a))
      fst_held = rw linked

      pointer : Dec ((variable ext s a).fst ≡ 0) → Pointer G N s.state.mem (variable ext s a).fst
      pointer (yes z) = inl z
      pointer (no nz) = inr (reachable_block en.shape s rep.consistent m_n en.fits (omega (arith, variables_pointers ext s 0 k, k1, en.shape.frame)) (variable ext s a).fst (start nz (among_roots ext s a k ak)))

      fits : (4 ≤ location (2 * a)) × (location (2 * a) < operands G) × (location (2 * a) ≢ 16)
      fits = location_fits G (2 * a) (omega arith)

      -- where register b has the pointer and r is s but for TEMP
      end : (r : Config) (b : ℕ) → b ≢ 3 → r.state.mem ≡ s.state.mem → r.state.reg 2 ≡ s.state.reg 2 → r.state.reg 3 ≡ s.state.reg 3 → Keeps (λ x. x ≢ 1) s r → r.state.reg b ≡ held s (location (2 * a))
          → Does words (erase_register b) r (PointerErased G ext s a)
      end r b b3 em e2 e3 kr rb =
          let er : Placed G N r = placed_keeps (omega arith) kr en in
          let pr : Pointer G N r.state.mem (r.state.reg b) = rw (em, rb, ← fst_held) (pointer (ℕ_discrete (variable ext s a).fst 0)) in
          so (erase_does words r b er b3 pr) (λ u x.
          let fu : block_fields G.fields u.state.mem ≡ block_fields G.fields s.state.mem = fields_all G.fields r.state.mem u.state.mem x.0.fields ∙ ap (block_fields G.fields) em in
          let two : u.state.reg 2 ≡ s.state.reg 2 = keeps_register x.1 2 (omega arith) (omega arith) ∙ e2 in (
            rw (rb, ← fst_held, em, e3) at x.0.did,
            rw (fu, two),
            keeps_trans (keeps_sub (λ y d. d.0) kr) (keeps_sub (λ y d. d.1) x.1),
            rw em at x.0.fields,
          ))

      by : (c : Bool) → ltb (location (2 * a)) 16 ≡ c → Does words (cond c (erase_register (location (2 * a))) (seq (leaf (MOVL 1 0 (stack_offset G (location (2 * a)))) refl) (erase_register 1))) s (PointerErased G ext s a)
      by true q = end s (location (2 * a)) (omega (arith, fits.0)) refl refl refl keeps_refl (sym (held_register s.state.reg s.state.stk (location (2 * a)) (ltb-true (location (2 * a)) 16 q)))
      by false q =
          go (spill_MOVL words s en (location (2 * a)) (ltb-false (location (2 * a)) 16 q) fits.1 1)
          (end (with_register s 1 (held s (location (2 * a)))) 1 (omega arith) refl refl refl (keeps_put 1 (held s (location (2 * a))) (λ x y. y) keeps_refl) refl)

  pub drop_order : {N m : ℕ} {values : Values} (ext : ℕ → Bool) (s : Config) (e : ℕ) → Placed G N s → m ≤ N → 2 * e + 2 < positions G → ext e ≡ false
      → Represents (object_sizes G) (L G) (heap_of G s) m (variables ext s 0 e ++ (variable ext s e ∷ [])) values
      → Does words (erase_block G (location (2 * e))) s
      (λ u. Performs (object_sizes G) (L G) (heap_of G s) drop (variables ext s 0 e ++ (variable ext s e ∷ [])) (heap_of G u) (variables ext u 0 e) × Keeps (λ x. (x ≢ 1) × (x ≢ 3)) s u)
  drop_order {m} {values} ext s e en m_n e1 linked rep =
      let snoc : variables ext s 0 (suc e) ≡ variables ext s 0 e ++ (variable ext s e ∷ []) = variables_snoc ext s 0 e ∙ rw (zero-add e) in
      let whole : Represents (object_sizes G) (L G) (heap_of G s) m (variables ext s 0 (suc e)) values = rw snoc rep in
      so (erase_performs ext s (suc e) e en m_n (omega arith) (omega arith) linked whole) (λ u x.
      let vs : variables ext u 0 e ≡ variables ext s 0 e = variables_kept ext s u 0 e (λ p a b. omega (arith, (location_free p).0)) x.2 in
      (rw (vs, x.1) (drops (variables ext s 0 e) (variable ext s e) (headers G.fields u.state.mem) (u.state.reg 3) x.0), x.2))

  -- variable a's pointer shared n times: the heap with other counts, as n copies of it ask
  pub share_performs : {N m : ℕ} {values : Values} (ext : ℕ → Bool) (s : Config) (e a n : ℕ) → Placed G N s → m ≤ N → a < e → 2 * e < positions G → n ≤ most_count → ext a ≡ false
      → Represents (object_sizes G) (L G) (heap_of G s) m (variables ext s 0 e) values
      → Does words (share_block G (location (2 * a)) n) s
      (λ u. Share (replicate n (variable ext s a).fst) (headers G.fields s.state.mem) (headers G.fields u.state.mem) × (heap_of G u ≡ with_headers (heap_of G s) (headers G.fields u.state.mem)) × Keeps (λ x. x ≢ 1) s u × SameFields G s.state.mem u.state.mem)
  share_performs {N} ext s e a n en m_n ae e_n n_n linked rep =
      let f = location_fits G (2 * a) (omega arith) in
      let p : (variable ext s a).fst ≡ held s (location (2 * a)) = rw linked in
      so (share_at words s (location (2 * a)) n en f.0 f.1 (λ nz. room nz)) (λ u x.
      let two : u.state.reg 2 ≡ s.state.reg 2 = keeps_register x.1 2 (omega arith) (omega arith) in
      let three : u.state.reg 3 ≡ s.state.reg 3 = keeps_register x.1 3 (omega arith) (omega arith) in (
        rw p x.0.counts,
        memory_is (block_fields G.fields u.state.mem) (block_fields G.fields s.state.mem) (headers G.fields u.state.mem) (u.state.reg 2) (s.state.reg 2) (u.state.reg 3) (s.state.reg 3) (sym (fields_all G.fields s.state.mem u.state.mem x.0.fields)) (sym two) (sym three),
        x.1,
        x.0.fields,
      ))
    where
      room : Shareable G N s.state.mem n (held s (location (2 * a)))
      room nz =
          let p : (variable ext s a).fst ≡ held s (location (2 * a)) = rw linked in
          let b = reachable_block en.shape s rep.consistent m_n en.fits (omega (arith, variables_pointers ext s 0 e, e_n, en.shape.frame)) (variable ext s a).fst (start (λ z. nz (sym p ∙ z)) (among_roots ext s a e ae)) in
          (b.number, b.inside, sym p ∙ b.address, omega (arith, b.small))
