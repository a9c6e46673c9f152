-- The blocks of an object before the last loaded one after the other: what has become of the heap and the variables so far.
use mathlib.Core.Bool.{Bool, true, false, cond}
use mathlib.Core.List.{List, [], ◌∷◌, ◌++◌, append_assoc, append-nil}
use mathlib.Core.Logic.{◌≢◌}
use mathlib.Core.Path.{◌≡◌, refl, sym, ◌∙◌, ap, subst}
use Prim.Native.Nat.{ℕ, suc, ◌+◌, ◌-◌, ◌*◌, ◌≤◌, ◌<◌}
use native.Mathlib.Omega.{arith}
use lib.Dec.{ltb}
use lib.ListN.{length, length-append}
use borrow.Author.Tests.{ltb-false}
use Rattle.records.proofs.Conditions.{never}
use Rattle.layout.specs.declared.config.Shape.{Shape}
use Rattle.layout.specs.Config.{Supported, link_word, positions}
use Rattle.layout.specs.Positions.{location}
use Rattle.machine_step.specs.Step.{Config}
use Rattle.memory.specs.Objects.{load_block}
use Rattle.heap.specs.Blocks.{Cell, pointers, Memory}
use Rattle.heap.specs.Counting.{occ}
use Rattle.heap.proofs.CountingLemmas.{occ_append, occ_pointers, occ_length}
use Rattle.heap.specs.Operations.{push_linear, last_field, ReleaseObject}
use Rattle.heap.proofs.ValueLemmas.{last_field_append, same_end, same_front}
use Rattle.heap.specs.Values.{concat, lengths}
use Rattle.heap.proofs.WordLemmas.{header_at, fields_at, cells_length, cells_append, fields_all}
use Rattle.heap.specs.Words.{word_at, headers, cells_from, block_fields}
use Rattle.layout_proof.specs.Held.{held, Keeps, Placed}
use Rattle.layout_proof.proofs.Operands.{block_address}
use Rattle.layout_proof.proofs.HeldLemmas.{keeps_trans, keeps_sub, keeps_register, placed_keeps, location_apart, location_order, location_free, position_high}
use Rattle.layout_proof.proofs.Runs.{Does, so}
use Rattle.memory_proof.proofs.Loading.{MayShare, pointers_append, cell_at, cells_snoc, as_variable, as_variables, shown_by}
use Rattle.memory_proof.proofs.LoadingBlock.{AfterBlock, released, counted, Aside, restored, load_block_lem}
use Rattle.memory_proof.proofs.Shown.{heap_of, SameFields, head_same, head_off, head_fields, memory_is}
use Rattle.memory_proof.proofs.Variables.{variables, variables_append, variables_kept}

-- ---- the blocks of an object, by their addresses

-- where the object lies that p points to: each block in the heap, with its chunk and the link
abbrev pub Lies : Shape → ℕ → (ℕ → List Cell) → ℕ → List (List Cell) → Type 0
Lies G N f p [] = Unit {0}
Lies G N f p (c ∷ []) = (j : ℕ) × (j < N) × (p ≡ block_address G j) × (pad : List Cell) × (f p ≡ pad ++ c)
Lies G N f p (c ∷ d ∷ ch) = (j : ℕ) × (j < N) × (p ≡ block_address G j) × (pad : List Cell) × (l : Cell) × (f p ≡ pad ++ (c ++ (l ∷ []))) × Lies G N f l.fst (d ∷ ch)

-- what the last block holds is what its fields show
pub lies_last : (G : Shape) (m : ℕ → ℕ) (j k : ℕ) (c pad : List Cell) → length c ≡ k → k ≤ G.fields → cells_from G.fields m j 0 G.fields ≡ pad ++ c → cells_from G.fields m j (G.fields - k) k ≡ c
lies_last G m j k c pad n h e =
    let a : G.fields ≡ (G.fields - k) + k = omega arith in
    let z : 0 + (G.fields - k) ≡ G.fields - k = omega arith in
    let s : cells_from G.fields m j 0 G.fields ≡ cells_from G.fields m j 0 (G.fields - k) ++ cells_from G.fields m j (G.fields - k) k = ap (cells_from G.fields m j 0) a ∙ cells_append G.fields m j 0 (G.fields - k) k ∙ ap (λ (x : ℕ). cells_from G.fields m j 0 (G.fields - k) ++ cells_from G.fields m j x k) z in
    same_end (cells_from G.fields m j 0 (G.fields - k)) pad (cells_from G.fields m j (G.fields - k) k) c (sym s ∙ e) (cells_length G.fields m j (G.fields - k) k ∙ sym n)

lies_other : (G : Shape) → Supported G → (m : ℕ → ℕ) (j k : ℕ) (c pad : List Cell) (l : Cell) → length c ≡ k → k ≤ G.fields - 1 → cells_from G.fields m j 0 G.fields ≡ pad ++ (c ++ (l ∷ [])) → (cells_from G.fields m j (G.fields - 1 - k) k ≡ c) × (m (word_at G.fields j (link_word G)) ≡ l.fst)
lies_other G few m j k c pad l n h e =
    let a : G.fields - suc k ≡ G.fields - 1 - k = omega arith in
    let b : G.fields - 1 - k + k ≡ G.fields - 1 = omega arith in
    let q : cells_from G.fields m j (G.fields - suc k) (suc k) ≡ c ++ (l ∷ []) = lies_last G m j (suc k) (c ++ (l ∷ [])) pad (length-append c (l ∷ []) ∙ omega arith) (omega (arith, few.some)) e in
    let s : cells_from G.fields m j (G.fields - 1 - k) k ++ (cell_at G m j (G.fields - 1) ∷ []) ≡ c ++ (l ∷ []) = ap (λ (x : ℕ). cells_from G.fields m j (G.fields - 1 - k) k ++ (cell_at G m j x ∷ [])) (sym b) ∙ sym (cells_snoc G m j (G.fields - 1 - k) k) ∙ ap (λ (x : ℕ). cells_from G.fields m j x (suc k)) (sym a) ∙ q in
    let f : cells_from G.fields m j (G.fields - 1 - k) k ≡ c = same_front (cells_from G.fields m j (G.fields - 1 - k) k) c (cell_at G m j (G.fields - 1) ∷ []) (l ∷ []) s (cells_length G.fields m j (G.fields - 1 - k) k ∙ sym n) in
    let g : cell_at G m j (G.fields - 1) ∷ [] ≡ l ∷ [] = same_end (cells_from G.fields m j (G.fields - 1 - k) k) c (cell_at G m j (G.fields - 1) ∷ []) (l ∷ []) s refl in
    (f, ap (λ (x : List Cell). (last_field x).fst) g)

-- ---- blocks released, or left and their pointers counted

-- the blocks of the chunks, from p on by their links to q, are on the linear list
abbrev pub ReleasedTo : Memory → ℕ → List (List Cell) → Memory → ℕ → Type 0
ReleasedTo M p [] M' q = (M ≡ M') × (p ≡ q)
ReleasedTo M p (c ∷ ch) M' q = (h₁ : ℕ → ℕ) × (h₁ p ≡ M.linear_head) × ((b : ℕ) → b ≢ p → h₁ b ≡ M.header b) × ReleasedTo (push_linear M p h₁) (last_field (M.fields p)).fst ch M' q

released_snoc : (pre : List (List Cell)) (M : Memory) (p : ℕ) (M₁ : Memory) (q : ℕ) (h₂ : ℕ → ℕ) (d : List Cell) → ReleasedTo M p pre M₁ q → h₂ q ≡ M₁.linear_head → ((b : ℕ) → b ≢ q → h₂ b ≡ M₁.header b) → ReleasedTo M p (pre ++ (d ∷ [])) (push_linear M₁ q h₂) (last_field (M₁.fields q)).fst
released_snoc [] M p M₁ q h₂ d w a o = rw (w.0, w.1) (h₂, a, o, (refl, refl))
released_snoc (c ∷ pre) M p M₁ q h₂ d w a o = (w.0, w.1, w.2, released_snoc pre (push_linear M p w.0) (last_field (M.fields p)).fst M₁ q h₂ d w.3 a o)

pub released_end : (pre : List (List Cell)) (M : Memory) (p : ℕ) (M₁ : Memory) (q : ℕ) (h₂ : ℕ → ℕ) (d : List Cell) → ReleasedTo M p pre M₁ q → h₂ q ≡ M₁.linear_head → ((b : ℕ) → b ≢ q → h₂ b ≡ M₁.header b) → ReleaseObject M p (pre ++ (d ∷ [])) (push_linear M₁ q h₂)
released_end [] M p M₁ q h₂ d w a o = rw (w.0, w.1) (h₂, a, o, refl)
released_end (c ∷ []) M p M₁ q h₂ d w a o = (w.0, w.1, w.2, released_end [] (push_linear M p w.0) (last_field (M.fields p)).fst M₁ q h₂ d w.3 a o)
released_end (c ∷ e ∷ pre) M p M₁ q h₂ d w a o = (w.0, w.1, w.2, released_end (e ∷ pre) (push_linear M p w.0) (last_field (M.fields p)).fst M₁ q h₂ d w.3 a o)

-- the counts are more by the pointers ps, and nothing else changes
pub record CountsMore (ps : List ℕ) (M M' : Memory) : Type 0 where
  pub fields : M'.fields ≡ M.fields
  pub linear_head : M'.linear_head ≡ M.linear_head
  pub lazy_head : M'.lazy_head ≡ M.lazy_head
  pub header : (b : ℕ) → b ≢ 0 → M'.header b ≡ M.header b + occ b ps

-- the blocks of the chunks `pre`, from p on to q: released, or still there and the pointers ps counted
pub data BlocksGone (M : Memory) (p : ℕ) (pre : List (List Cell)) (ps : List ℕ) : Bool → Memory → ℕ → Type 0 where
  all_released : {M' : Memory} {q : ℕ} → ReleasedTo M p pre M' q → BlocksGone M p pre ps false M' q
  all_counted : {M' : Memory} {q : ℕ} → CountsMore ps M M' → BlocksGone M p pre ps true M' q

-- what one block's load does to the heap
pub after_fields : {G : Shape} {j heap heap' : ℕ} {ps : List ℕ} {m m' : ℕ → ℕ} {sh : Bool} → AfterBlock G j ps m heap sh m' heap' → SameFields G m m'
after_fields {G} {j = j} {heap = heap} {m = m} (released e q) x w a b = rw e (head_fields G m j heap x w a b)
after_fields (counted c q) x w a b = c.fields x w a b

module _ (G : Shape) (M : Memory) (p : ℕ) (pre : List (List Cell)) (d : List Cell) (ps qs rs : List ℕ) (occs : (b : ℕ) → occ b rs ≡ occ b ps + occ b qs) (r u : Config) (j q : ℕ) (is : q ≡ block_address G j) (three : u.state.reg 3 ≡ r.state.reg 3) where
  pub gone_next : {sh : Bool} → BlocksGone M p pre ps sh (heap_of G r) q → AfterBlock G j qs r.state.mem (r.state.reg 2) sh u.state.mem (u.state.reg 2) → (q' : ℕ) → q' ≡ (last_field (block_fields G.fields r.state.mem q)).fst → BlocksGone M p (pre ++ (d ∷ [])) rs sh (heap_of G u) q'
  gone_next (all_released w) (released e z) q' y =
      let wd : SameFields G r.state.mem u.state.mem = λ x w a b. rw e (head_fields G r.state.mem j (r.state.reg 2) x w a b) in
      let t : ReleasedTo M p (pre ++ (d ∷ [])) (push_linear (heap_of G r) q (headers G.fields u.state.mem)) (last_field (block_fields G.fields r.state.mem q)).fst
      = released_snoc pre M p (heap_of G r) q (headers G.fields u.state.mem) d w (rw (e, is) (head_same G r.state.mem j (r.state.reg 2))) (λ b n. rw e (head_off G r.state.mem j (r.state.reg 2) b (λ x. n (x ∙ sym is)))) in
      let t₂ : ReleasedTo M p (pre ++ (d ∷ [])) (heap_of G u) q' = rw (y, ← (memory_is (block_fields G.fields r.state.mem) (block_fields G.fields u.state.mem) (headers G.fields u.state.mem) q (u.state.reg 2) (r.state.reg 3) (u.state.reg 3) (fields_all G.fields r.state.mem u.state.mem wd) (z ∙ sym is) three)) t in
      all_released t₂
  gone_next (all_counted t) (counted c z) q' y = all_counted {M' = heap_of G u} (record { fields = fields_all G.fields r.state.mem u.state.mem c.fields ∙ t.fields; linear_head = z ∙ t.linear_head; lazy_head = three ∙ t.lazy_head; header = λ b nz. omega (arith, c.counts b nz, t.header b nz, occs b) })

-- ---- the blocks before the last

-- below variable e, and none of those that a load changes
abbrev pub Under : ℕ → ℕ → Type 0
Under e x = (x ≢ 1) × (x ≢ 2) × (x ≢ 16) × (x < location (2 * e))

pub as_variables_append : (ext : ℕ → Bool) (v : ℕ) (xs ys : List Cell) → as_variables ext v (xs ++ ys) ≡ as_variables ext v xs ++ as_variables ext (v + length xs) ys
as_variables_append ext v [] ys = let e : v + 0 ≡ v = omega arith in rw e
as_variables_append ext v (x ∷ xs) ys = let e : v + suc (length xs) ≡ suc v + length xs = omega arith in rw e (ap (λ (z : List Cell). as_variable ext v x ∷ z) (as_variables_append ext (suc v) xs ys))

pub concat_snoc : (pre : List (List Cell)) (d : List Cell) → concat (pre ++ (d ∷ [])) ≡ concat pre ++ d
concat_snoc [] d = append-nil d
concat_snoc (c ∷ pre) d = ap (λ (z : List Cell). c ++ z) (concat_snoc pre d) ∙ sym (append_assoc c (concat pre) d)

pub as_variables_length : (ext : ℕ → Bool) (v : ℕ) (cs : List Cell) → length (pointers (as_variables ext v cs)) ≡ length cs
as_variables_length ext v [] = refl
as_variables_length ext v (c ∷ cs) = ap suc (as_variables_length ext (suc v) cs)

-- the pointers left, after a block
may_share_block : {G : Shape} {sh : Bool} {N j heap heap' K k : ℕ} {m m' : ℕ → ℕ} (ps qs : List ℕ) → length ps ≡ k → k ≤ K → AfterBlock G j ps m heap sh m' heap' → MayShare G sh N K m (ps ++ qs) → MayShare G sh N (K - k) m' qs
may_share_block ps qs n h (released e z) f = record { each = never }
may_share_block {G} {m = m} {m' = m'} ps qs n h (counted c y) f = record {
  each = λ e p x z.
      let g = f.each refl p (omega (arith, occ_append p ps qs)) z in
      let h₁ : headers G.fields m' p ≡ m' (word_at G.fields g.0 0) = ap (headers G.fields m') g.2 ∙ header_at G.fields m' g.0 in
      let h₂ : headers G.fields m p ≡ m (word_at G.fields g.0 0) = ap (headers G.fields m) g.2 ∙ header_at G.fields m g.0 in
      (g.0, g.1, g.2, omega (arith, g.3, c.counts p z, occ_length p ps));
}

-- the pointers of a block alone
pub may_share_first : {G : Shape} {sh : Bool} {N K : ℕ} {m : ℕ → ℕ} (ps qs : List ℕ) → MayShare G sh N K m (ps ++ qs) → MayShare G sh N K m ps
may_share_first ps qs f = record { each = λ e p x z. f.each e p (omega (arith, occ_append p ps qs)) z }

-- the borrowed register is neither HEAP, FREE nor STACK
pub restored_mem : (fr : Bool) (s : Config) → (restored fr s).state.mem ≡ s.state.mem
restored_mem true s = refl
restored_mem false s = refl

pub restored_heap : (fr : Bool) (s : Config) → (restored fr s).state.reg 2 ≡ s.state.reg 2
restored_heap true s = refl
restored_heap false s = refl

pub restored_free : (fr : Bool) (s : Config) → (restored fr s).state.reg 3 ≡ s.state.reg 3
restored_free true s = refl
restored_free false s = refl

pub restored_placed : {G : Shape} {N : ℕ} (fr : Bool) (s : Config) → Placed G N s → Placed G N (restored fr s)
restored_placed true s v = v
restored_placed false s v = v

pub placed_restored : {G : Shape} {N : ℕ} (fr : Bool) (s : Config) → Placed G N (restored fr s) → Placed G N s
placed_restored true s v = v
placed_restored false s v = v

borrowed : (c : Bool) (v : ℕ) → ltb (location (2 * v)) 16 ≡ c → cond c false true ≡ true → 12 ≤ 2 * v
borrowed true v e q = never q
borrowed false v e q = position_high (2 * v) (ltb-false (location (2 * v)) 16 e)

pub under_aside : (e v k x : ℕ) → e ≤ v → Under e x → Aside v k x
under_aside e v k x h y = (((y.0, λ p a b. omega (arith, y.3, location_order (2 * e) p (omega arith))), y.1, omega (arith, y.3, location_order (2 * e) (2 * (v + k)) (omega arith))), y.2)

pub before_aside : (v k p : ℕ) → p < 2 * v → Aside v k (location p)
before_aside v k p h = (((omega (arith, (location_free p).0), λ q a b. location_apart p q (omega arith)), omega (arith, (location_free p).0), location_apart p (2 * (v + k)) (omega arith)), (location_free p).1)

module _ (G : Shape) (ext : ℕ → Bool) where
  -- k variables from e on are loaded, of an object p with the chunks ch; blocks of the sizes ls are left, and register 4 is borrowed or not
  pub record LoadedSoFar (sh : Bool) (N K e k p : ℕ) (ch : List (List Cell)) (ls : List ℕ) (s : Config) (fr : Bool) (r : Config) : Type 0 where
    pub pre : List (List Cell)
    pub left : List (List Cell)
    pub whole : ch ≡ pre ++ left
    pub shape : lengths left ≡ ls
    pub count : length (concat pre) ≡ k
    pub placed : Placed G N r
    pub lies : Lies G N (block_fields G.fields r.state.mem) (held (restored fr r) (location (2 * (e + k)))) left
    pub vals : variables ext (restored fr r) e k ≡ as_variables ext e (concat pre)
    pub gone : BlocksGone (heap_of G s) p pre (pointers (as_variables ext e (concat pre))) sh (heap_of G r) (held (restored fr r) (location (2 * (e + k))))
    pub may_share : MayShare G sh N (K - k) r.state.mem (pointers (as_variables ext (e + k) (concat left)))
    pub keeps : Keeps (Under e) s (restored fr r)
    pub high : fr ≡ true → 12 ≤ 2 * (e + k)

module _ {G : Shape} (words : ℕ → ℕ) (ext : ℕ → Bool) where
  -- one more of the blocks before the last
  pub load_other : {sh : Bool} {N K e k p y : ℕ} {ch : List (List Cell)} {ys : List ℕ} {fr : Bool} (s r : Config) (kk : ℕ) → 1 ≤ kk → kk ≤ G.fields - 1 → 2 * (e + k + kk) < positions G → k + kk ≤ K
      → LoadedSoFar G ext sh N K e k p ch (kk ∷ y ∷ ys) s fr r → Does words (load_block G ext sh true fr (e + k) kk) r (λ u. LoadedSoFar G ext sh N K e (k + kk) p ch (y ∷ ys) s (cond (ltb (location (2 * (e + k))) 16) false true) u)
  load_other {sh} {N} {K} {e} {k} {p} {y} {ch} {ys} {fr} s r kk k1 k2 vk k_k w = by w.left w.whole w.shape w.lies w.may_share
    where
      by : (left : List (List Cell)) → ch ≡ w.pre ++ left → lengths left ≡ kk ∷ y ∷ ys → Lies G N (block_fields G.fields r.state.mem) (held (restored fr r) (location (2 * (e + k)))) left → MayShare G sh N (K - k) r.state.mem (pointers (as_variables ext (e + k) (concat left)))
          → Does words (load_block G ext sh true fr (e + k) kk) r (λ u. LoadedSoFar G ext sh N K e (k + kk) p ch (y ∷ ys) s (cond (ltb (location (2 * (e + k))) 16) false true) u)
      by [] a b l f = let z : ◌≡◌ {A = ℕ} 0 1 = cc in absurd (omega arith)
      by (c ∷ []) a b l f = let z : ◌≡◌ {A = ℕ} 0 1 = cc in absurd (omega arith)
      by (c ∷ d ∷ ds) a b l f =
          let j : ℕ = l.0 in
          let q : ℕ = held (restored fr r) (location (2 * (e + k))) in
          let lc : length c ≡ kk = cc in
          let ld : lengths (d ∷ ds) ≡ y ∷ ys = cc in
          let at : cells_from G.fields r.state.mem j 0 G.fields ≡ l.3 ++ (c ++ (l.4 ∷ [])) = sym (fields_at G.fields r.state.mem j) ∙ ap (block_fields G.fields r.state.mem) (sym l.2) ∙ l.5 in
          let o = lies_other G w.placed.shape r.state.mem j kk c l.3 l.4 lc k2 at in
          let sc : shown_by G ext (e + k) kk r.state.mem j (G.fields - 1) ≡ as_variables ext (e + k) c = ap (as_variables ext (e + k)) o.0 in
          let ap₁ : pointers (as_variables ext (e + k) (c ++ concat (d ∷ ds))) ≡ pointers (as_variables ext (e + k) c) ++ pointers (as_variables ext (e + k + kk) (concat (d ∷ ds)))
          = ap pointers (as_variables_append ext (e + k) c (concat (d ∷ ds)) ∙ ap (λ (x : ℕ). as_variables ext (e + k) c ++ as_variables ext (e + k + x) (concat (d ∷ ds))) lc) ∙ pointers_append (as_variables ext (e + k) c) (as_variables ext (e + k + kk) (concat (d ∷ ds))) in
          let f₁ : MayShare G sh N (K - k) r.state.mem (pointers (as_variables ext (e + k) c) ++ pointers (as_variables ext (e + k + kk) (concat (d ∷ ds)))) = rw ap₁ at f in
          let f₂ : MayShare G sh N (K - k) r.state.mem (pointers (shown_by G ext (e + k) kk r.state.mem j (G.fields - 1))) = rw sc (may_share_first (pointers (as_variables ext (e + k) c)) (pointers (as_variables ext (e + k + kk) (concat (d ∷ ds)))) f₁) in
          so (load_block_lem words ext sh true (e + k) kk j (K - k) l.1 k2 k1 vk (omega arith) fr r w.high w.placed l.2 f₂) (λ u x.
          let fr₁ : Bool = cond (ltb (location (2 * (e + k))) 16) false true in
          let S : Config = restored fr r in
          let R : Config = restored fr₁ u in
          let n : e + (k + kk) ≡ e + k + kk = omega arith in
          let w₁ : AfterBlock G j (pointers (as_variables ext (e + k) c)) r.state.mem (r.state.reg 2) sh u.state.mem (u.state.reg 2) = rw (restored_mem fr r, restored_heap fr r, restored_mem fr₁ u, restored_heap fr₁ u, sc) at x.went in
          let fu : block_fields G.fields u.state.mem ≡ block_fields G.fields r.state.mem = fields_all G.fields r.state.mem u.state.mem (after_fields w₁) in
          let lk : held R (location (2 * (e + (k + kk)))) ≡ l.4.fst = ap (λ (z : ℕ). held R (location (2 * z))) n ∙ x.link refl ∙ ap (λ (z : ℕ → ℕ). z (word_at G.fields j (link_word G))) (restored_mem fr r) ∙ o.1 in
          let lf : (last_field (block_fields G.fields r.state.mem q)).fst ≡ l.4.fst = rw (l.5, ← append_assoc, last_field_append) refl in
          let sv : shown_by G ext (e + k) kk S.state.mem j (G.fields - 1) ≡ as_variables ext (e + k) c = ap (λ (z : ℕ → ℕ). shown_by G ext (e + k) kk z j (G.fields - 1)) (restored_mem fr r) ∙ sc in
          let cs : as_variables ext e (concat (w.pre ++ (c ∷ []))) ≡ as_variables ext e (concat w.pre) ++ as_variables ext (e + k) c
          = ap (as_variables ext e) (concat_snoc w.pre c) ∙ as_variables_append ext e (concat w.pre) c ∙ ap (λ (z : ℕ). as_variables ext e (concat w.pre) ++ as_variables ext (e + z) c) w.count in
          let vs : variables ext R e k ≡ variables ext S e k = variables_kept ext S R e k (λ z a b. before_aside (e + k) kk z b) x.keeps in
          let three : u.state.reg 3 ≡ r.state.reg 3 = sym (restored_free fr₁ u) ∙ keeps_register x.keeps 3 (omega arith) (under_aside e (e + k) kk 3 (omega arith) (omega arith, omega arith, omega arith, omega (arith, (location_free (2 * e)).0))) ∙ restored_free fr r in
          let l₆ : Lies G N (block_fields G.fields u.state.mem) (held R (location (2 * (e + (k + kk))))) (d ∷ ds) =
          subst (λ (x : ℕ). Lies G N (block_fields G.fields u.state.mem) x (d ∷ ds)) (sym lk)
          (subst (λ (M : ℕ → List Cell). Lies G N M l.4.fst (d ∷ ds)) (sym fu) l.6) in
          let p₂ : MayShare G sh N (K - k - kk) u.state.mem (pointers (as_variables ext (e + k + kk) (concat (d ∷ ds)))) = may_share_block (pointers (as_variables ext (e + k) c)) (pointers (as_variables ext (e + k + kk) (concat (d ∷ ds)))) (as_variables_length ext (e + k) c ∙ lc) (omega arith) w₁ f₁ in
          let m : K - (k + kk) ≡ K - k - kk = omega arith in
          record {
            pre = w.pre ++ (c ∷ []);
            left = d ∷ ds;
            whole = a ∙ sym (append_assoc w.pre (c ∷ []) (d ∷ ds));
            shape = ld;
            count = ap length (concat_snoc w.pre c) ∙ length-append (concat w.pre) c ∙ omega (arith, w.count);
            placed = placed_restored fr₁ u (placed_keeps (under_aside e (e + k) kk 0 (omega arith) (omega arith, omega arith, omega arith, omega (arith, (location_free (2 * e)).0))) x.keeps (restored_placed fr r w.placed));
            lies = l₆;
            vals = variables_append ext R e k kk ∙ rw (vs, w.vals, x.vals, sv) (sym cs);
            gone = gone_next G (heap_of G s) p w.pre c (pointers (as_variables ext e (concat w.pre))) (pointers (as_variables ext (e + k) c)) (pointers (as_variables ext e (concat (w.pre ++ (c ∷ [])))))
                (λ b. ap (λ (z : List Cell). occ b (pointers z)) cs ∙ occ_pointers b (as_variables ext e (concat w.pre)) (as_variables ext (e + k) c)) r u j q l.2 three w.gone w₁ (held R (location (2 * (e + (k + kk))))) (lk ∙ sym lf);
            may_share = rw (n, m) p₂;
            keeps = keeps_trans w.keeps (keeps_sub (λ z y. under_aside e (e + k) kk z (omega arith) y) x.keeps);
            high = λ z. omega (arith, borrowed (ltb (location (2 * (e + k))) 16) (e + k) refl z);
          })
