-- A variable's words into the variables past the last: copy performs the abstract heap's copy.
use mathlib.Core.Bool.{Bool, true, false, cond}
use mathlib.Core.List.{◌∷◌, ◌++◌}
use mathlib.Core.Logic.{◌≢◌, ◌⊎◌, inl, inr}
use mathlib.Core.Path.{◌≡◌, refl, ◌∙◌, ap}
use Prim.Native.Nat.{ℕ, zero, suc, ◌+◌, ◌-◌, ◌*◌, ◌≤◌, ◌<◌}
use native.Mathlib.Nat.{zero-add, add-zero}
use native.Mathlib.Decide.{dec_lt}
use native.Mathlib.Omega.{arith}
use lib.ListN.{length, replicate}
use Rattle.word.specs.Words.{choose}
use Rattle.trees.specs.Tree.{nop, seq}
use Rattle.layout.specs.declared.config.Shape.{Shape}
use Rattle.layout.specs.Config.{positions}
use Rattle.layout.specs.Positions.{location}
use Rattle.machine_step.specs.Step.{Config}
use Rattle.memory.specs.Blocks.{share_block}
use Rattle.memory.specs.Objects.{object_sizes}
use Rattle.heap.specs.Blocks.{Cell, cell}
use Rattle.heap.proofs.CountingLemmas.{occ_replicate_other}
use Rattle.heap.proofs.Invariant.{Represents}
use Rattle.heap.specs.Operations.{Share, with_headers}
use Rattle.heap.specs.Orders.{copy, Performs, makes_copies}
use Rattle.heap.specs.Values.{Values}
use Rattle.heap.specs.Words.{headers}
use Rattle.layout_proof.specs.Held.{held, Keeps, Placed}
use Rattle.layout_proof.proofs.HeldLemmas.{keeps_refl, keeps_trans, keeps_sub, keeps_register, placed_keeps, location_grows, location_fits, location_free}
use Rattle.layout_proof.proofs.Runs.{Does, one, go, then, so}
use Rattle.code_proof.specs.Claims.{Sets}
use Rattle.code_proof.proofs.Computed.{mov_does}
use Rattle.memory_proof.proofs.DropOrder.{share_performs}
use Rattle.memory_proof.proofs.Shown.{L, heap_of}
use Rattle.memory_proof.proofs.Variables.{variable, variables, variables_append, variables_length, variables_kept, variables_kinds}
use Rattle.order_spec.specs.Writes.{copy_variable, copy_to}
use Rattle.soundness.proofs.Appending.{Performed, heap_same}

-- variable x's words; an integer's Fst is not looked at
abbrev pub words_at : Bool → Config → ℕ → Cell
words_at ext c x = cell (choose ext 0 (held c (location (2 * x)))) (held c (location (2 * x + 1)))

-- what is below variable v is as it was, and the heap
abbrev Below : ℕ → Config → Config → Type 0
Below v c d = Keeps (λ x. (x ≢ 1) × (x < location (2 * v))) c d × (d.state.mem ≡ c.state.mem)

words_below : (ext : Bool) (c d : Config) (x v : ℕ) → x < v → Below v c d → words_at ext d x ≡ words_at ext c x
words_below ext c d x v h k =
    let p = location_grows (2 * x) (2 * v) (omega arith) in
    let q = location_grows (2 * x + 1) (2 * v) (omega arith) in
    let e : held d (location (2 * x)) ≡ held c (location (2 * x)) = k.0.kept (location (2 * x)) (omega (arith, p.0), p.1) in
    let f : held d (location (2 * x + 1)) ≡ held c (location (2 * x + 1)) = k.0.kept (location (2 * x + 1)) (omega (arith, q.0), q.1) in
    rw (e, f)

below_then : (v u : ℕ) (c d e : Config) → v ≤ u → Below v c d → Below u d e → Below v c e
below_then v u c d e l a b = (keeps_trans a.0 (keeps_sub (λ x p. (p.0, omega (arith, p.1, further (dec_lt v u)))) b.0), b.1 ∙ a.1)
  where
    further : Dec (v < u) → location (2 * v) ≤ location (2 * u)
    further (yes z) = omega (arith, (location_grows (2 * v) (2 * u) (omega arith)).1)
    further (no z) = let q : v ≡ u = omega arith in rw q (omega arith)

-- a Snd, or a Fst, of variable v set
set_below : (c d : Config) (v p w : ℕ) → p ≡ 2 * v ⊎ p ≡ 2 * v + 1 → Sets (location p) w c d → Below v c d
set_below c d v p w (inl e) s = (keeps_sub (λ x q. (omega (arith, q.1, ap location e), q.0)) s.1.kept, s.1.heap)
set_below c d v p w (inr e) s = (keeps_sub (λ x q. (omega (arith, q.1, ap location e, (location_grows (2 * v) (2 * v + 1) (omega arith)).1), q.0)) s.1.kept, s.1.heap)

-- variables that all have the same words
same_variables : (ext : ℕ → Bool) (d : Config) (x : Cell) (v n : ℕ) → ((i : ℕ) → i < n → variable ext d (v + i) ≡ x) → variables ext d v n ≡ replicate n x
same_variables ext d x v zero f = refl
same_variables ext d x v (suc n) f =
    let e : variable ext d v ≡ x = rw (add-zero v) at (f 0 (omega arith)) in
    rw (e, same_variables ext d x (suc v) n (λ i l. let z : v + suc i ≡ suc v + i = omega arith in rw z at (f (suc i) (omega arith))))

-- the variable that is copied, those before it and those behind
pub among : (ext : ℕ → Bool) (c : Config) (a k : ℕ) → a < k → variables ext c 0 k ≡ variables ext c 0 a ++ (variable ext c a ∷ variables ext c (suc a) (k - suc a))
among ext c a k h =
    let n : k ≡ a + suc (k - suc a) = omega arith in
    ap (variables ext c 0) n ∙ variables_append ext c 0 a (suc (k - suc a)) ∙ ap (λ (x : ℕ). variables ext c 0 a ++ variables ext c x (suc (k - suc a))) (zero-add a)

module _ (G : Shape) where
  module _ (words : ℕ → ℕ) {N : ℕ} where
    below_placed : (c d : Config) (v : ℕ) → Below v c d → Placed G N c → Placed G N d
    below_placed c d v b p = placed_keeps (omega arith, omega (arith, (location_free (2 * v)).0)) b.0 p

    one_copy : (ext : Bool) (c : Config) (a v : ℕ) → Placed G N c → a < v → 2 * v + 2 < positions G → Does words (copy_variable G ext a v) c (λ d. (words_at ext d v ≡ words_at ext c a) × Below v c d)
    one_copy true c a v p h b =
        so (mov_does words c p (location (2 * v + 1)) (location (2 * a + 1)) (location_fits G (2 * v + 1) (omega arith)).1 (location_fits G (2 * a + 1) (omega arith)).1) (λ d s.
        (rw s.0, set_below c d v (2 * v + 1) (held c (location (2 * a + 1))) (inr refl) s))
    one_copy false c a v p h b =
        then (mov_does words c p (location (2 * v)) (location (2 * a)) (location_fits G (2 * v) (omega arith)).1 (location_fits G (2 * a) (omega arith)).1) (λ d s.
        let B = set_below c d v (2 * v) (held c (location (2 * a))) (inl refl) s in
        so (mov_does words d (below_placed c d v B p) (location (2 * v + 1)) (location (2 * a + 1)) (location_fits G (2 * v + 1) (omega arith)).1 (location_fits G (2 * a + 1) (omega arith)).1) (λ e t.
        let g = location_grows (2 * v) (2 * v + 1) (omega arith) in
        let fv : held e (location (2 * v)) ≡ held d (location (2 * v)) = t.1.kept.kept (location (2 * v)) (omega (arith, g.1), omega (arith, g.0)) in
        let q = location_grows (2 * a + 1) (2 * v) (omega arith) in
        let sa : held d (location (2 * a + 1)) ≡ held c (location (2 * a + 1)) = B.0.kept (location (2 * a + 1)) (omega (arith, q.0), q.1) in
        (rw (fv ∙ s.0, t.0 ∙ sa), below_then v v c d e (omega arith) B (set_below d e v (2 * v + 1) (held d (location (2 * a + 1))) (inr refl) t))))

    copies_does : (n : ℕ) (ext : Bool) (c : Config) (a v : ℕ) → Placed G N c → a < v → 2 * (v + n) < positions G
        → Does words (copy_to G ext a v n) c (λ d. ((i : ℕ) → i < n → words_at ext d (v + i) ≡ words_at ext c a) × Below v c d)
    copies_does zero ext c a v p h b = one refl ((λ i l. absurd (omega arith)), (keeps_refl, refl))
    copies_does (suc n) ext c a v p h b =
        then (one_copy ext c a v p h (omega arith)) (λ d s.
        so (copies_does n ext d a (suc v) (below_placed c d v s.1 p) (omega arith) (omega arith)) (λ e t.
        ((λ i l. at d e s t i l), below_then v (suc v) c d e (omega arith) s.1 t.1)))
      where
        at : (d e : Config) → (words_at ext d v ≡ words_at ext c a) × Below v c d → ((i : ℕ) → i < n → words_at ext e (suc v + i) ≡ words_at ext d a) × Below (suc v) d e
            → (i : ℕ) → i < suc n → words_at ext e (v + i) ≡ words_at ext c a
        at d e s t zero l = let z : v + 0 ≡ v = omega arith in rw z (words_below ext d e v (suc v) (omega arith) t.1 ∙ s.0)
        at d e s t (suc j) l = let z : v + suc j ≡ suc v + j = omega arith in rw z (t.0 j (omega arith) ∙ words_below ext c d a v h s.1)

  module _ (words : ℕ → ℕ) {N : ℕ} (ext ext' : ℕ → Bool) (c : Config) (k a n : ℕ) (v : Placed G N c) (ak : a < k) (most : 2 * (k + n) < positions G) (agree : (x : ℕ) → x < k → ext' x ≡ ext x)
      (same : (i : ℕ) → i < n → ext' (k + i) ≡ ext a) where
    -- the copies made from u, which differs from c in counts and TEMP alone
    copied : (u d : Config) (header : ℕ → ℕ) → heap_of G u ≡ with_headers (heap_of G c) header → Share (replicate n (variable ext c a).fst) (heap_of G c).header header → Keeps (λ x. x ≢ 1) c u
        → ((i : ℕ) → i < n → words_at (ext a) d (k + i) ≡ words_at (ext a) u a) × Below k u d → Performed G N c (copy a n) ext ext' k (k + n) d
    copied u d header hu sh ku s =
        let K : Keeps (λ x. (x ≢ 1) × (x < location (2 * k))) c d = keeps_trans (keeps_sub (λ x p. p.0) ku) s.1.0 in
        let low = (location_free (2 * k)).0 in
        let hd : heap_of G d ≡ with_headers (heap_of G c) header = heap_same G u d s.1.1 (keeps_register s.1.0 2 (omega arith) (omega arith, omega arith)) (keeps_register s.1.0 3 (omega arith) (omega arith, omega arith)) ∙ hu in
        let front : variables ext' d 0 k ≡ variables ext c 0 k
        = variables_kinds ext ext' d 0 k (λ x p q. agree x (omega arith))
        ∙ variables_kept ext c d 0 k (λ p x y. let g = location_grows p (2 * k) (omega arith) in (omega (arith, g.0), g.1)) K in
        let fa = location_free (2 * a) in
        let sa = location_free (2 * a + 1) in
        let ua : words_at (ext a) u a ≡ variable ext c a = rw (ku.kept (location (2 * a)) (omega (arith, fa.0)), ku.kept (location (2 * a + 1)) (omega (arith, sa.0))) in
        let back : variables ext' d k n ≡ replicate n (variable ext c a) = same_variables ext' d (variable ext c a) k n (λ i l. rw (same i l) (s.0 i l ∙ ua)) in
        let all : variables ext' d 0 (k + n) ≡ variables ext c 0 k ++ replicate n (variable ext c a)
        = variables_append ext' d 0 k n ∙ rw (zero-add k, front, back) in
        let p : Performs (object_sizes G) (L G) (heap_of G c) (copy (length (variables ext c 0 a)) n) (variables ext c 0 a ++ (variable ext c a ∷ variables ext c (suc a) (k - suc a))) (with_headers (heap_of G c) header)
        ((variables ext c 0 a ++ (variable ext c a ∷ variables ext c (suc a) (k - suc a))) ++ replicate n (variable ext c a))
        = makes_copies (variables ext c 0 a) (variables ext c (suc a) (k - suc a)) (variable ext c a) n header sh in
        record {
          performs = rw (hd, all) (rw (variables_length ext c 0 a, ← (among ext c a k ak)) at p);
          placed = placed_keeps (omega arith, omega arith) K v;
          quiet = K.calls_kept;
        }

    copy_integer : ext a ≡ true → Does words (copy_to G (ext a) a k n) c (Performed G N c (copy a n) ext ext' k (k + n))
    copy_integer e =
        so (copies_does words n (ext a) c a k v ak most) (λ d s.
        copied c d (heap_of G c).header refl (λ b nz. rw e (omega (arith, occ_replicate_other n 0 b nz))) keeps_refl s)

    pub copy_does : {m : ℕ} {values : Values} → m ≤ N → Represents (object_sizes G) (L G) (heap_of G c) m (variables ext c 0 k) values
        → Does words (seq (cond (ext a) nop (share_block G (location (2 * a)) n)) (copy_to G (ext a) a k n)) c (Performed G N c (copy a n) ext ext' k (k + n))
    copy_does {m} m_n rep = by (ext a) refl
      where
        by : (e : Bool) → ext a ≡ e → Does words (seq (cond e nop (share_block G (location (2 * a)) n)) (copy_to G (ext a) a k n)) c (Performed G N c (copy a n) ext ext' k (k + n))
        by true e = go {t = nop} refl (copy_integer e)
        by false e =
            then (share_performs words ext c k a n v m_n ak (omega arith) (omega arith) e rep) (λ u x.
            so (copies_does words n (ext a) u a k (placed_keeps (omega arith) x.2 v) ak most) (λ d s. copied u d (headers G.fields u.state.mem) x.1 x.0 x.2 s))
