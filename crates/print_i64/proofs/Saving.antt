-- Registers saved and restored register by register are the lists and the trees of all.
use Prim.Native.Nat.{ℕ, zero, suc, ◌+◌, ◌-◌, ◌/◌, ◌%◌, ◌^◌, ◌≤◌, ◌<◌}
use mathlib.Core.Path.{◌≡◌, refl, sym, ap, ◌∙◌}
use mathlib.Core.Bool.{Bool, true, false, cond}
use mathlib.Core.List.{List, [], ◌∷◌, ◌++◌, append-nil, append_assoc}
use native.Mathlib.Nat.{add-zero}
use native.Mathlib.Numerals.{add-one}
use native.Mathlib.Omega.{arith}
use lib.Count.{ones}
use lib.Dec.{leb, ltb}
use lib.ListN.{length, length-append, take, drop}
use lib.Seq.{drop-nil}
use borrow.Author.Tests.{eq-eqb, ne_eqb, lt-ltb, le-ltb, ltb-true, ltb-false, le-leb, lt-leb, leb-true, leb-false}
use Rattle.records.specs.declared.code.Code.{Code}
use Rattle.records.specs.declared.code.Code.TheVariants.{ADDI, SUBI, MOV, PUSH, POP}
use Rattle.trees.specs.Tree.{labels, flat_at, leaf, seq}
use Rattle.emit.specs.declared.cursor.Cursor.{Cursor}
use Rattle.emit.specs.Emitted.{fields_list, Emitted, Emits}
use Rattle.emit.proofs.Laws.{◌⨾◌, ◌⨟◌, grown, emits_nop, fields_append}
use Rattle.layout.specs.Config.{STACK}
use Rattle.print_i64.specs.Registers.{bit, members, CallerSaved}
use Rattle.print_i64.specs.Print.{moves, moves_back, pushes, pops, if_even, save_registers, restore_registers}
use Rattle.print_i64.proofs.Sizes.{plain_moves, plain_back, plain_pushes, plain_pops}
use Rattle.print_i64.specs.Saved.{near, far, move_all, move_one, pop_one}
use Rattle.print_i64.proofs.Sets.{ones_members, members_next}

-- the pops of the k registers below r, from the highest on, of those with u or more members below them
unfoldable pub pops_down : ℕ → ℕ → ℕ → ℕ → List Code
pops_down u r zero m = []
pops_down u r (suc k) m = pops_down u r k m ++ pop_one u (length (members (r - suc k) m)) (r - suc k) m

pub nothing : {o : List ℕ} {p : Cursor} → Emitted o p o p [] 0
nothing = record { bytes = refl; place = omega arith; drawn = omega arith }

-- no register yet
pub none_moved : {o : List ℕ} {p : Cursor} (back : Bool) (f u m : ℕ) → CallerSaved m → (0 ≡ length (members 4 m)) × Emitted o p o p (fields_list (move_all back f u (members 4 m))) 0
unfolding move_all
none_moved back f u m saved = rw saved.0 (refl, nothing)

-- lists of records in a row
pub joined : {o o₁ o₂ : List ℕ} {p p₁ p₂ : Cursor} (xs ys : List Code) → Emitted o p o₁ p₁ (fields_list xs) 0 → Emitted o₁ p₁ o₂ p₂ (fields_list ys) 0
    → Emitted o p o₂ p₂ (fields_list (xs ++ ys)) 0
joined xs ys d e = rw (fields_append xs ys) (d ⨾ e)

ltb_suc : (a b : ℕ) → ltb (suc a) (suc b) ≡ ltb a b
ltb_suc a b = by (ltb a b) refl
  where
    by : (t : Bool) → ltb a b ≡ t → ltb (suc a) (suc b) ≡ t
    by true e = let h : a < b = ltb-true a b e in lt-ltb (suc a) (suc b) (omega arith)
    by false e = let h : b ≤ a = ltb-false a b e in le-ltb (suc a) (suc b) (omega arith)

leb_suc : (a b : ℕ) → leb (suc a) (suc b) ≡ leb a b
leb_suc a b = by (leb a b) refl
  where
    by : (t : Bool) → leb a b ≡ t → leb (suc a) (suc b) ≡ t
    by true e = let h : a ≤ b = leb-true a b e in le-leb (suc a) (suc b) (omega arith)
    by false e = let h : b < a = leb-false a b e in lt-leb (suc a) (suc b) (omega arith)

module _ (back : Bool) where
  move_last : (f u r : ℕ) (rs : List ℕ)
      → move_all back f u (rs ++ (r ∷ [])) ≡ move_all back f u rs ++ cond (ltb (length rs) u) (near back (f + length rs) r) (far back r)
  unfolding move_all
  move_last f zero r [] = simp append-nil
  move_last f (suc u) r [] = let h : 0 < suc u = omega arith in rw (lt-ltb 0 (suc u) h, add-zero f) (append-nil (near back f r))
  move_last f zero r (x ∷ rs) =
      let a : ltb (length rs) 0 ≡ false = le-ltb (length rs) 0 (omega arith) in
      let b : ltb (suc (length rs)) 0 ≡ false = le-ltb (suc (length rs)) 0 (omega arith) in
      rw b (ap (λ (l : List Code). far back x ++ l) (move_last f zero r rs ∙ rw a) ∙ sym (append_assoc (far back x) (move_all back f zero rs) (far back r)))
  move_last f (suc u) r (x ∷ rs) =
      let e : f + suc (length rs) ≡ f + 1 + length rs = omega arith in
      rw (ltb_suc (length rs) u, e)
      (ap (λ (l : List Code). near back f x ++ l) (move_last (f + 1) u r rs)
      ∙ sym (append_assoc (near back f x) (move_all back (f + 1) u rs) (cond (ltb (length rs) u) (near back (f + 1 + length rs) r) (far back r))))

  -- one register more of a set
  pub move_next : (f u r m : ℕ) → move_all back f u (members (r + 1) m) ≡ move_all back f u (members r m) ++ move_one back f u (length (members r m)) r m
  unfolding members
  move_next f u r m = rw (add-one r) (by (bit r m))
    where
      by : (t : Bool) → move_all back f u (members r m ++ cond t (r ∷ []) [])
          ≡ move_all back f u (members r m) ++ cond t (cond (ltb (length (members r m)) u) (near back (f + length (members r m)) r) (far back r)) []
      by true = move_last f u r (members r m)
      by false = simp append-nil

  near_most : (f r : ℕ) → length (near back f r) ≤ 1
  near_most f r = by back
    where
      by : (b : Bool) → length (near b f r) ≤ 1
      by true = omega arith
      by false = omega arith

  far_most : (r : ℕ) → length (far back r) ≤ 1
  far_most r = by back
    where
      by : (b : Bool) → length (far b r) ≤ 1
      by true = omega arith
      by false = omega arith

  pub move_most : (f u : ℕ) (rs : List ℕ) → length (move_all back f u rs) ≤ length rs
  unfolding move_all
  move_most f u [] = omega arith
  move_most f zero (r ∷ rs) = omega (arith, length-append (far back r) (move_all back f zero rs), far_most r, move_most f zero rs)
  move_most f (suc u) (r ∷ rs) = omega (arith, length-append (near back f r) (move_all back (f + 1) u rs), near_most f r, move_most (f + 1) u rs)

-- the moves and pushes of a list, and the moves back, as trees
flat_moved : (f u : ℕ) (rs : List ℕ) (c n n' : ℕ) → flat_at (moves f (take u rs)) c n ++ flat_at (pushes (drop u rs)) c n' ≡ move_all false f u rs
unfolding move_all
flat_moved f zero [] c n n' = refl
flat_moved f (suc u) [] c n n' = refl
flat_moved f zero (r ∷ rs) c n n' = ap (λ (l : List Code). PUSH r ∷ l) (flat_moved f zero rs c n (n' + 0))
flat_moved f (suc u) (r ∷ rs) c n n' = ap (λ (l : List Code). MOV f r ∷ l) (flat_moved (f + 1) u rs c (n + 0) n')

flat_back : (f u : ℕ) (rs : List ℕ) (c n : ℕ) → flat_at (moves_back f (take u rs)) c n ≡ move_all true f u rs
unfolding move_all
flat_back f zero [] c n = refl
flat_back f (suc u) [] c n = refl
flat_back f zero (r ∷ rs) c n = flat_back f zero rs c n
flat_back f (suc u) (r ∷ rs) c n = ap (λ (l : List Code). MOV r f ∷ l) (flat_back (f + 1) u rs c (n + 0))

module _ {o o' : List ℕ} {p q : Cursor} (f u : ℕ) (rs : List ℕ) where
  pub moved_out : Emitted o p o' q (fields_list (move_all false f u rs)) 0 → Emits o p o' q (seq (moves f (take u rs)) (pushes (drop u rs)))
  moved_out d =
      grown (seq (moves f (take u rs)) (pushes (drop u rs))) d
      (ap fields_list (sym (flat_moved f u rs p.counter 0 (0 + labels (moves f (take u rs))))))
      (omega (arith, (plain_moves f (take u rs)).0, (plain_pushes (drop u rs)).0))

  pub moved_back : Emitted o p o' q (fields_list (move_all true f u rs)) 0 → Emits o p o' q (moves_back f (take u rs))
  moved_back d =
      grown (moves_back f (take u rs)) d
      (ap fields_list (sym (flat_back f u rs p.counter 0)))
      (sym (plain_back f (take u rs)).0)

-- pops, the last member of the set first
pops_last : (u r : ℕ) (xs : List ℕ) (c n : ℕ) → flat_at (pops (drop u (xs ++ (r ∷ [])))) c n ≡ cond (leb u (length xs)) (POP r ∷ []) [] ++ flat_at (pops (drop u xs)) c n
pops_last zero r [] c n = refl
pops_last (suc u) r [] c n = let h : 0 < suc u = omega arith in rw (lt-leb (suc u) 0 h, drop-nil u)
pops_last zero r (x ∷ xs) c n =
    let a : leb 0 (length xs) ≡ true = le-leb 0 (length xs) (omega arith) in
    let b : leb 0 (suc (length xs)) ≡ true = le-leb 0 (suc (length xs)) (omega arith) in
    rw b (ap (λ (l : List Code). l ++ (POP x ∷ [])) (rw a at (pops_last zero r xs c n)))
pops_last (suc u) r (x ∷ xs) c n = rw (leb_suc u (length xs)) (pops_last u r xs c n)

pops_more : (u r m c n : ℕ) → flat_at (pops (drop u (members (r + 1) m))) c n ≡ pop_one u (length (members r m)) r m ++ flat_at (pops (drop u (members r m))) c n
unfolding members
pops_more u r m c n = rw (add-one r) (by (bit r m))
  where
    by : (t : Bool) → flat_at (pops (drop u (members r m ++ cond t (r ∷ []) []))) c n ≡ cond t (cond (leb u (length (members r m))) (POP r ∷ []) []) [] ++ flat_at (pops (drop u (members r m))) c n
    by true = pops_last u r (members r m) c n
    by false = simp append-nil

pops_rest : (u r k m c n : ℕ) → k ≤ r → flat_at (pops (drop u (members r m))) c n ≡ pops_down u r k m ++ flat_at (pops (drop u (members (r - k) m))) c n
unfolding pops_down
pops_rest u r zero m c n h = let e : r - 0 ≡ r = omega arith in rw e
pops_rest u r (suc k) m c n h =
    let e : r - k ≡ r - suc k + 1 = omega arith in
    pops_rest u r k m c n (omega arith) ∙ rw (e, pops_more u (r - suc k) m c n, append_assoc)

-- nothing is popped above the highest register
empty : (xs ys : List Code) → ys ≡ xs ++ ys → xs ≡ []
empty [] ys e = refl
empty (x ∷ xs) ys e = absurd (omega (arith, ap length e, length-append (x ∷ xs) ys))

pub none_popped : (u m : ℕ) → CallerSaved m → [] ≡ pops_down u 16 4 m
none_popped u m saved =
    let rest = pops_rest u 16 4 m 0 0 (omega arith) in
    sym (empty (pops_down u 16 4 m) (flat_at (pops (drop u (members 12 m))) 0 0) (ap (λ (l : List ℕ). flat_at (pops (drop u l)) 0 0) saved.1 ∙ rest))

-- nor below the lowest
pub popped : {o o' : List ℕ} {p q : Cursor} (u m : ℕ) {k : ℕ} → CallerSaved m → k ≡ 12 → Emitted o p o' q (fields_list (pops_down u 16 k m)) 0
    → Emits o p o' q (pops (drop u (members 16 m)))
popped {p = p} u m saved e d =
    let rest : flat_at (pops (drop u (members 16 m))) p.counter 0 ≡ pops_down u 16 12 m =
    pops_rest u 16 12 m p.counter 0 (omega arith) ∙ rw (saved.0, drop-nil u, append-nil) in
    grown (pops (drop u (members 16 m))) (rw e at d)
    (ap fields_list (sym rest))
    (sym (plain_pops (drop u (members 16 m))).0)

pub pops_most : (u r k m : ℕ) → length (pops_down u r k m) ≤ k
unfolding pops_down
pops_most u r zero m = omega arith
pops_most u r (suc k) m = omega (arith, pops_most u r k m, length-append (pops_down u r k m) (pop_one u (length (members (r - suc k) m)) (r - suc k) m), one (bit (r - suc k) m) (leb u (length (members (r - suc k) m))) (r - suc k))
  where
    one : (s t : Bool) (x : ℕ) → length (cond {A = List Code} s (cond t (POP x ∷ []) []) []) ≤ 1
    one true true x = omega arith
    one true false x = omega arith
    one false t x = omega arith

-- the next register down
pub pops_next : (u r m : ℕ) → 0 < r → r ≤ 16 → pops_down u 16 (16 - (r - 1)) m ≡ pops_down u 16 (16 - r) m ++ pop_one u (length (members (r - 1) m)) (r - 1) m
unfolding pops_down
pops_next u r m h l =
    let e : 16 - (r - 1) ≡ suc (16 - r) = omega arith in
    let f : 16 - suc (16 - r) ≡ r - 1 = omega arith in
    rw (e, f)

pub left_before : (r m : ℕ) → 0 < r → length (members r m) ≡ length (members (r - 1) m) + m / 2 ^ (r - 1) % 2
left_before r m h = let e : r ≡ r - 1 + 1 = omega arith in ap (λ (n : ℕ). length (members n m)) e ∙ members_next (r - 1) m

pub left_next : (r m left : ℕ) → 0 < r → left ≡ length (members r m) → left - m / 2 ^ (r - 1) % 2 ≡ length (members (r - 1) m)
left_next r m left h e = omega (arith, left_before r m h)

-- with the 8 bytes more, by the ones of the set
module _ {o o₁ : List ℕ} {p p₁ : Cursor} (f u m : ℕ) (h : m < 65536) (d : Emitted o p o₁ p₁ (fields_list (move_all false f u (members 16 m))) 0) where
  pub saved_even : {o₂ : List ℕ} {p₂ : Cursor} → (ones m - u) % 2 ≡ 0 → Emitted o₁ p₁ o₂ p₂ (fields_list (SUBI STACK 8 ∷ [])) 0 → Emits o p o₂ p₂ (save_registers f u (members 16 m))
  saved_even k e =
      rw (← (ones_members m h), eq-eqb ((ones m - u) % 2) 0 k) (moved_out f u (members 16 m) d ⨟ grown (leaf (SUBI STACK 8) refl) e refl refl)

  pub saved_odd : ((ones m - u) % 2 ≡ 0 → ⊥) → Emits o p o₁ p₁ (save_registers f u (members 16 m))
  saved_odd k = rw (← (ones_members m h), ne_eqb ((ones m - u) % 2) 0 k) (moved_out f u (members 16 m) d ⨟ emits_nop)

pub restored : {o o₁ o₂ o₃ : List ℕ} {p p₁ p₂ p₃ : Cursor} (f u m : ℕ) → m < 65536
    → Emitted o p o₁ p₁ (fields_list (move_all true f u (members 16 m))) 0
    → Emits o₁ p₁ o₂ p₂ (if_even (ones m - u) (ADDI STACK 8) refl)
    → Emits o₂ p₂ o₃ p₃ (pops (drop u (members 16 m)))
    → Emits o p o₃ p₃ (restore_registers f u (members 16 m))
restored f u m h d e x = rw (← (ones_members m h)) (moved_back f u (members 16 m) d ⨟ e ⨟ x)
