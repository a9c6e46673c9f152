-- Values held stay held where the blocks that they reach stay the same; what a load reads by the chunks' lengths is what the object holds.
-- Then laws of lists of values held, part by part.
use mathlib.Core.Path.{◌≡◌, refl, sym, ap, ◌∙◌}
use mathlib.Core.Logic.{◌≢◌}
use mathlib.Core.List.{List, [], ◌∷◌, ◌++◌}
use Prim.Native.Nat.{ℕ, zero, suc}
use native.Mathlib.Decide.{ℕ_discrete}
use native.Mathlib.Omega.{arith}
use lib.ListN.{length, replicate, length-append}
use lib.Seq.{drop-append_seam, take-append_seam}
use Rattle.heap.specs.Counting.{occ}
use Rattle.heap.specs.Blocks.{Cell, pointers, children}
use Rattle.heap.specs.Values.{Value, integer, object, Values, nil, cons, count_of, appended, first_of, rest_of, value_at, copies, concat, lengths, Object, Holds, HoldAll}
use Rattle.heap.specs.Apart.{ObjectApart, HoldsApart, HoldAllApart}
use Rattle.heap.specs.Operations.{last_field, ReadObject}
use Rattle.heap.proofs.CountingLemmas.{same_self, same_other, occ_pointers}

-- ---- objects

pub object_nonzero : (fields : ℕ → List Cell) (linked : ℕ → ℕ) (p : ℕ) (c : List Cell) (chunks : List (List Cell)) → ObjectApart fields linked p (c ∷ chunks) → p ≢ 0
object_nonzero fields linked p c [] o = o.0
object_nonzero fields linked p c (d ∷ chunks) o = o.0

-- what is held with links told apart is held
object_plainly : (fields : ℕ → List Cell) (linked : ℕ → ℕ) (chunks : List (List Cell)) (p : ℕ) → ObjectApart fields linked p chunks → Object fields p chunks
object_plainly fields linked [] p o = o
object_plainly fields linked (c ∷ []) p o = o
object_plainly fields linked (c ∷ d ∷ chunks) p o = (o.0, o.1, o.2, o.3, o.4, object_plainly fields linked (d ∷ chunks) o.3.fst o.6)

module _ (sizes : ℕ → List ℕ) (fields : ℕ → List Cell) (linked : ℕ → ℕ) where
  mutual
    value_plainly : (v : Value) (c : Cell) → HoldsApart sizes fields linked v c → Holds sizes fields v c
    value_plainly (integer w) c h = h
    value_plainly (object tag vs) c h = (h.0, h.2, object_plainly fields linked h.2 c.fst h.3, held_plainly vs (concat h.2) h.4, h.5)

    pub held_plainly : (vs : Values) (cs : List Cell) → HoldAllApart sizes fields linked vs cs → HoldAll sizes fields vs cs
    held_plainly nil cs h = h
    held_plainly (cons v vs) cs h = (h.0, h.1, h.2, value_plainly v h.0 h.3, held_plainly vs h.1 h.4)

-- a block's fields name its link, and its chunk's pointers
link_named : (body unused c : List Cell) (link : Cell) → body ≡ unused ++ (c ++ (link ∷ [])) → occ link.fst (pointers body) ≢ 0
link_named body unused c link e = rw e (omega (arith, occ_pointers link.fst unused (c ++ (link ∷ [])), occ_pointers link.fst c (link ∷ []), same_self link.fst))

module _ {fields fields' : ℕ → List Cell} {linked linked' : ℕ → ℕ} (S : ℕ → Type 0) (agree : (b : ℕ) → S b → fields' b ≡ fields b) (marks : (b : ℕ) → S b → linked' b ≡ linked b)
    (closed : (y b : ℕ) → S y → b ≢ 0 → occ b (children fields y) ≢ 0 → S b) where
  pub object_frame : (chunks : List (List Cell)) (p : ℕ) → (p ≢ 0 → S p) → ObjectApart fields linked p chunks → ObjectApart fields' linked' p chunks
  object_frame [] p s o = o
  object_frame (c ∷ []) p s o = (o.0, o.1, o.2, agree p (s o.0) ∙ o.3)
  object_frame (c ∷ d ∷ chunks) p s o =
      let l = o.3.fst in
      let m : (l ≢ 0) → S l = λ nz. closed p l (s o.0) nz (link_named (fields p) o.1 c o.3 o.4) in
      (o.0, o.1, o.2, o.3, agree p (s o.0) ∙ o.4, marks l (m (object_nonzero fields linked l d chunks o.6)) ∙ o.5, object_frame (d ∷ chunks) l m o.6)

  -- what an object's values name
  pub object_pointers : (chunks : List (List Cell)) (p : ℕ) → (p ≢ 0 → S p) → ObjectApart fields linked p chunks → (b : ℕ) → b ≢ 0 → occ b (pointers (concat chunks)) ≢ 0 → S b
  object_pointers [] p s o b nz m = absurd (m refl)
  object_pointers (c ∷ []) p s o b nz m = closed p b (s o.0) nz (rw o.3 (omega (arith, occ_pointers b o.1 c, occ_pointers b c [])))
  object_pointers (c ∷ d ∷ chunks) p s o b nz m =
      let l = o.3.fst in
      let n : (l ≢ 0) → S l = λ nz. closed p l (s o.0) nz (link_named (fields p) o.1 c o.3 o.4) in
      by (ℕ_discrete (occ b (pointers c)) 0) (λ r. object_pointers (d ∷ chunks) l n o.6 b nz r)
    where
      by : Dec (occ b (pointers c) ≡ 0) → (occ b (pointers (concat (d ∷ chunks))) ≢ 0 → S b) → S b
      by (yes z) k = k (omega (arith, occ_pointers b c (concat (d ∷ chunks))))
      by (no z) k = closed p b (s o.0) nz (rw o.4 (omega (arith, occ_pointers b o.1 (c ++ (o.3 ∷ [])), occ_pointers b c (o.3 ∷ []))))

  mutual
    holds_frame : (sizes : ℕ → List ℕ) (v : Value) (c : Cell) → (c.fst ≢ 0 → S c.fst) → HoldsApart sizes fields linked v c → HoldsApart sizes fields' linked' v c
    holds_frame sizes (integer w) c s o = o
    holds_frame sizes (object tag vs) c s o =
        (o.0, (λ nz. marks c.fst (s nz) ∙ o.1 nz), o.2, object_frame o.2 c.fst s o.3, hold_all_frame sizes vs (concat o.2) (object_pointers o.2 c.fst s o.3) o.4, o.5)

    pub hold_all_frame : (sizes : ℕ → List ℕ) (vs : Values) (cs : List Cell) → ((b : ℕ) → b ≢ 0 → occ b (pointers cs) ≢ 0 → S b) → HoldAllApart sizes fields linked vs cs → HoldAllApart sizes fields' linked' vs cs
    hold_all_frame sizes nil cs s o = o
    hold_all_frame sizes (cons v vs) cs s o =
        let e : cs ≡ o.0 ∷ o.1 = o.2 in
        (o.0, o.1, e, holds_frame sizes v o.0 (λ nz. s o.0.fst nz (rw e (omega (arith, same_self o.0.fst)))) o.3, hold_all_frame sizes vs o.1 (λ b nz m. s b nz (rw e (omega arith))) o.4)

-- ---- what a load reads of an object, by the chunks' lengths, is what it holds

pub last_field_append : (cs : List Cell) (l : Cell) → last_field (cs ++ (l ∷ [])) ≡ l
last_field_append [] l = refl
last_field_append (c ∷ []) l = refl
last_field_append (c ∷ d ∷ cs) l = last_field_append (d ∷ cs) l

pub same_end : (x y c d : List Cell) → x ++ c ≡ y ++ d → length c ≡ length d → c ≡ d
same_end x y c d e l =
    let n : length x ≡ length y = omega (arith, simp length-append at (ap length e)) in
    sym (drop-append_seam x c) ∙ rw (e, n) (drop-append_seam y d)

pub same_front : (x y c d : List Cell) → x ++ c ≡ y ++ d → length x ≡ length y → x ≡ y
same_front x y c d e n = sym (take-append_seam x c) ∙ rw (e, n) (take-append_seam y d)

pub read_is_held : (fields : ℕ → List Cell) (linked : ℕ → ℕ) (p : ℕ) (c c' : List Cell) (chunks chunks' : List (List Cell)) → ObjectApart fields linked p (c ∷ chunks) → ReadObject fields p c' chunks'
    → lengths (c ∷ chunks) ≡ lengths (c' ∷ chunks') → c ∷ chunks ≡ c' ∷ chunks'
read_is_held fields linked p c c' [] [] o r e =
    let n : length c ≡ length c' = cc in
    let q : c ≡ c' = same_end o.1 r.0 c c' (sym o.3 ∙ r.1) n in
    cc
read_is_held fields linked p c c' [] (d' ∷ chunks') o r e = cc
read_is_held fields linked p c c' (d ∷ chunks) [] o r e = cc
read_is_held fields linked p c c' (d ∷ chunks) (d' ∷ chunks') o r e =
    let l = o.3 in
    let l' = r.1 in
    let n : length c ≡ length c' = cc in
    let m : lengths (d ∷ chunks) ≡ lengths (d' ∷ chunks') = cc in
    let b : c ++ (l ∷ []) ≡ c' ++ (l' ∷ []) = same_end o.1 r.0 (c ++ (l ∷ [])) (c' ++ (l' ∷ [])) (sym o.4 ∙ r.2) (simp length-append (omega arith)) in
    let q : c ≡ c' = same_front c c' (l ∷ []) (l' ∷ []) b n in
    let k : l ∷ [] ≡ l' ∷ [] = same_end c c' (l ∷ []) (l' ∷ []) b refl in
    let i : l ≡ l' = cc in
    let t : d ∷ chunks ≡ d' ∷ chunks' = read_is_held fields linked l.fst d d' chunks chunks' o.6 (rw i r.3) m in
    cc

-- ---- lists of values held

module _ (sizes : ℕ → List ℕ) (fields : ℕ → List Cell) (linked : ℕ → ℕ) where
  pub hold_joined : (vs ws : Values) (cs ds : List Cell) → HoldAllApart sizes fields linked vs cs → HoldAllApart sizes fields linked ws ds → HoldAllApart sizes fields linked (appended vs ws) (cs ++ ds)
  hold_joined nil ws cs ds a b = rw a b
  hold_joined (cons v vs) ws cs ds a b = (a.0, a.1 ++ ds, ap (λ (x : List Cell). x ++ ds) a.2, a.3, hold_joined vs ws a.1 ds a.4 b)

  pub hold_copies : (n : ℕ) (v : Value) (c : Cell) → HoldsApart sizes fields linked v c → HoldAllApart sizes fields linked (copies n v) (replicate n c)
  hold_copies zero v c h = refl
  hold_copies (suc n) v c h = (c, replicate n c, refl, h, hold_copies n v c h)

  hold_cons : (v : Value) (vs : Values) (c : Cell) (cs : List Cell) → HoldAllApart sizes fields linked (cons v vs) (c ∷ cs) → HoldsApart sizes fields linked v c × HoldAllApart sizes fields linked vs cs
  hold_cons v vs c cs a =
      let p : c ≡ a.0 = cc a.2 in
      let q : cs ≡ a.1 = cc a.2 in
      (rw p a.3, rw q a.4)

  hold_nil : {A : Type 0} (c : Cell) (cs : List Cell) → HoldAllApart sizes fields linked nil (c ∷ cs) → A
  hold_nil c cs a = let z : ◌≡◌ {A = ℕ} 0 1 = cc in absurd (omega arith)

  pub hold_first : (xs ys : List Cell) (vs : Values) → HoldAllApart sizes fields linked vs (xs ++ ys) → HoldAllApart sizes fields linked (first_of (length xs) vs) xs
  hold_first [] ys vs a = refl
  hold_first (c ∷ xs) ys nil a = hold_nil c (xs ++ ys) a
  hold_first (c ∷ xs) ys (cons v vs) a = let r = hold_cons v vs c (xs ++ ys) a in (c, xs, refl, r.0, hold_first xs ys vs r.1)

  pub hold_rest : (xs ys : List Cell) (vs : Values) → HoldAllApart sizes fields linked vs (xs ++ ys) → HoldAllApart sizes fields linked (rest_of (length xs) vs) ys
  hold_rest [] ys vs a = a
  hold_rest (c ∷ xs) ys nil a = hold_nil c (xs ++ ys) a
  hold_rest (c ∷ xs) ys (cons v vs) a = hold_rest xs ys vs (hold_cons v vs c (xs ++ ys) a).1

  pub hold_at : (xs : List Cell) (c : Cell) (ys : List Cell) (vs : Values) → HoldAllApart sizes fields linked vs (xs ++ (c ∷ ys)) → HoldsApart sizes fields linked (value_at (length xs) vs) c
  hold_at [] c ys nil a = hold_nil c ys a
  hold_at [] c ys (cons v vs) a = (hold_cons v vs c ys a).0
  hold_at (x ∷ xs) c ys nil a = hold_nil x (xs ++ (c ∷ ys)) a
  hold_at (x ∷ xs) c ys (cons v vs) a = hold_at xs c ys vs (hold_cons v vs x (xs ++ (c ∷ ys)) a).1

  pub hold_count : (vs : Values) (cs : List Cell) → HoldAllApart sizes fields linked vs cs → count_of vs ≡ length cs
  hold_count nil cs a = rw a
  hold_count (cons v vs) cs a = rw a.2 (ap suc (hold_count vs a.1 a.4))

  -- no link names a value's object
  pub value_unlinked : (v : Value) (c : Cell) → HoldsApart sizes fields linked v c → c.fst ≢ 0 → linked c.fst ≡ 0
  value_unlinked (integer w) c h nz = absurd (nz h.0)
  value_unlinked (object tag vs) c h nz = h.1 nz

  pub values_unlinked : (vs : Values) (cs : List Cell) (b : ℕ) → b ≢ 0 → linked b ≢ 0 → HoldAllApart sizes fields linked vs cs → occ b (pointers cs) ≡ 0
  values_unlinked nil cs b nz m o = rw o
  values_unlinked (cons v vs) cs b nz m o =
      let f : b ≢ o.0.fst = λ q. m (ap linked q ∙ value_unlinked v o.0 o.3 (λ z. nz (q ∙ z))) in
      rw o.2 (omega (arith, values_unlinked vs o.1 b nz m o.4, same_other f))

pub first_all : (vs : Values) → first_of (count_of vs) vs ≡ vs
first_all nil = refl
first_all (cons v vs) = ap (λ (x : Values). cons v x) (first_all vs)

pub rest_all : (vs : Values) → rest_of (count_of vs) vs ≡ nil
rest_all nil = refl
rest_all (cons v vs) = rest_all vs

pub joined_nil : (vs : Values) → appended vs nil ≡ vs
joined_nil nil = refl
joined_nil (cons v vs) = ap (λ (x : Values). cons v x) (joined_nil vs)

pub no_values : (vs : Values) → count_of vs ≡ 0 → vs ≡ nil
no_values nil e = refl
no_values (cons v vs) e = absurd (omega arith)
