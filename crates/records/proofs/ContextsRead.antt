-- A context that is checked: what a turn of the check keeps, what each end of it answers, and what an accepted context is.
use Rattle.std.specs.Prelude.{Ok, Err, Result}
use Prim.Native.Nat.{ℕ, zero, suc, ◌+◌, ◌*◌, ◌-◌, ◌/◌, ◌%◌, ◌≤◌, ◌<◌}
use mathlib.Core.Path.{◌≡◌, refl, sym, ◌∙◌}
use mathlib.Core.Bool.{Bool, true, false, ◌&&◌, cond}
use mathlib.Core.List.{List}
use native.Mathlib.Nat.{zero-add, add-zero, add_comm, mul-suc}
use native.Mathlib.Numerals.{add-one}
use native.Mathlib.Omega.{arith}
use lib.Dec.{leb, eqb}
use lib.ListN.{length, get_or, drop, length-drop}
use lib.Seq.{get_or-drop, drop-drop}
use borrow.Author.Tests.{eq-eqb, ne_eqb, le-leb, lt-leb, leb-true, eqb-true}
use Rattle.records.specs.declared.context.Flaw.{Flaw}
use Rattle.records.specs.declared.context.Flaw.TheVariants.{Length, Mark, Kind}
use Rattle.records.specs.Bytes.{number}
use Rattle.records.specs.Contexts.{marked, kind_ok, binding_starts, first_flaw, length_ok, counted_on, checked_context}
use Rattle.records.proofs.Conditions.{both, agree}
use Rattle.records.proofs.Numbers.{number_drop}
use Rattle.records.proofs.Starting.{first_byte}

module _ (s : List ℕ) (i : ℕ) where
  pub second_mark : get_or s i 0 ≡ 0xA7 → eqb (get_or s (i + 1) 0) 0x01 ≡ marked (drop i s)
  second_mark m = rw (first_byte s i, get_or-drop i s 1 0, eq-eqb (get_or s i 0) 0xA7 m)

  pub unmarked : (get_or s i 0 ≡ 0xA7 → ⊥) → false ≡ marked (drop i s)
  unmarked n = rw (first_byte s i, ne_eqb (get_or s i 0) 0xA7 n)

abbrev formed : List ℕ → Bool
formed s = marked s && kind_ok s

-- the halves of the first four bytes, as a number: the mark, and the kind with the zero byte
module _ (s : List ℕ) (byte : (j : ℕ) → get_or s j 0 < 256) where
  low_half : eqb (number 4 s 0 % 65536) 0x1A7 ≡ marked s
  unfolding number
  low_half = agree (eqb (number 4 s 0 % 65536) 0x1A7) (marked s) there back
    where
      there : eqb (number 4 s 0 % 65536) 0x1A7 ≡ true → marked s ≡ true
      there t =
          let e = eqb-true (number 4 s 0 % 65536) 0x1A7 t in
          let b = byte 0 in
          let c = byte 1 in
          rw (eq-eqb (get_or s 0 0) 0xA7 (omega arith), eq-eqb (get_or s 1 0) 0x01 (omega arith))

      back : marked s ≡ true → eqb (number 4 s 0 % 65536) 0x1A7 ≡ true
      back t =
          let m = both (eqb (get_or s 0 0) 0xA7) (eqb (get_or s 1 0) 0x01) t in
          let e = eqb-true (get_or s 0 0) 0xA7 m.0 in
          let f = eqb-true (get_or s 1 0) 0x01 m.1 in
          eq-eqb (number 4 s 0 % 65536) 0x1A7 (omega arith)

  high_half : leb (number 4 s 0 / 65536) 1 ≡ kind_ok s
  unfolding number
  high_half = agree (leb (number 4 s 0 / 65536) 1) (kind_ok s) there back
    where
      there : leb (number 4 s 0 / 65536) 1 ≡ true → kind_ok s ≡ true
      there t =
          let e = leb-true (number 4 s 0 / 65536) 1 t in
          rw (le-leb (get_or s 2 0) 1 (omega arith), eq-eqb (get_or s 3 0) 0 (omega arith))

      back : kind_ok s ≡ true → leb (number 4 s 0 / 65536) 1 ≡ true
      back t =
          let k = both (leb (get_or s 2 0) 1) (eqb (get_or s 3 0) 0) t in
          let e = leb-true (get_or s 2 0) 1 k.0 in
          let f = eqb-true (get_or s 3 0) 0 k.1 in
          let b = byte 0 in
          let c = byte 1 in
          le-leb (number 4 s 0 / 65536) 1 (omega arith)

module _ (s : List ℕ) (i : ℕ) (byte : (j : ℕ) → get_or s j 0 < 256) {n : ℕ} (e : n ≡ number 4 s i) where
  same_head : number 4 (drop i s) 0 ≡ n
  same_head = number_drop s i 4 0 ∙ rw add-zero (sym e)

  by_mark : eqb (n % 65536) 0x1A7 ≡ marked (drop i s)
  by_mark = rw same_head at (low_half (drop i s) (λ j. rw get_or-drop (byte (i + j))))

  by_kind : leb (n / 65536) 1 ≡ kind_ok (drop i s)
  by_kind = rw same_head at (high_half (drop i s) (λ j. rw get_or-drop (byte (i + j))))

  pub mark_missing : (n % 65536 ≡ 0x1A7 → ⊥) → false ≡ formed (drop i s)
  mark_missing f = rw (← by_mark, ne_eqb (n % 65536) 0x1A7 f)

  pub mark_there : n % 65536 ≡ 0x1A7 → leb (n / 65536) 1 ≡ formed (drop i s)
  mark_there f = rw (← by_mark, eq-eqb (n % 65536) 0x1A7 f) by_kind

pub after_next : (s : List ℕ) (k : ℕ) → drop 8 (drop (8 * k) s) ≡ drop (8 * (k + 1)) s
after_next s k = rw (drop-drop, add-one, mul-suc)

-- k of n bindings are checked, and all is to do from the k-th on
module _ (before : ℕ) (s : List ℕ) (k n : ℕ) {all : Result ℕ Flaw} (so_far : all ≡ counted_on before (first_flaw k (n - k) (drop (8 * k) s))) where
  pub done : n ≤ k → Ok k ≡ all
  unfolding first_flaw
  done h = let m : n - k ≡ 0 = omega arith in rw (so_far, m)

  module _ (h : k < n) {b : Bool} (e : b ≡ marked (drop (8 * k) s)) where
    pub bad_mark : b ≡ false → Err (Mark (before + (k + 1))) ≡ all
    unfolding first_flaw
    bad_mark t = let m : n - k ≡ suc (n - (k + 1)) = omega arith in rw (so_far, m, add-one, ← e, t)

    pub bad_kind : {c : Bool} → b ≡ true → c ≡ formed (drop (8 * k) s) → c ≡ false → Err (Kind (before + (k + 1))) ≡ all
    unfolding first_flaw
    bad_kind t f u =
        let m : n - k ≡ suc (n - (k + 1)) = omega arith in
        let q = rw (← e, t) at (sym f ∙ u) in
        rw (so_far, m, add-one, ← e, t, q)

  pub turn : {c : Bool} → k < n → c ≡ formed (drop (8 * k) s) → c ≡ true
      → all ≡ counted_on before (first_flaw (k + 1) (n - (k + 1)) (drop (8 * (k + 1)) s))
  unfolding first_flaw
  turn h f u =
      let m : n - k ≡ suc (n - (k + 1)) = omega arith in
      let p = both (marked (drop (8 * k) s)) (kind_ok (drop (8 * k) s)) (sym f ∙ u) in
      so_far ∙ rw (m, p.0, p.1, after_next, add-one)

-- the length comes first
module _ (before : ℕ) (s : List ℕ) where
  pub part_binding : (length s % 8 ≡ 0 → ⊥) → Err Length ≡ counted_on before (checked_context s)
  unfolding checked_context
  part_binding n = rw (ne_eqb (length s % 8) 0 n)

  module _ (w : length s % 8 ≡ 0) where
    pub too_many : 32768 < length s → Err Length ≡ counted_on before (checked_context s)
    unfolding checked_context
    too_many h = rw (eq-eqb (length s % 8) 0 w, lt-leb (length s) (8 * 4096) h)

    pub by_binding : {r : Result ℕ Flaw} → length s ≤ 32768 → r ≡ counted_on before (first_flaw 0 (length s / 8) s) → r ≡ counted_on before (checked_context s)
    unfolding checked_context
    by_binding h e = e ∙ rw (eq-eqb (length s % 8) 0 w, le-leb (length s) (8 * 4096) h)

-- bindings that come first
pub counted_from_none : (c : Result ℕ Flaw) → counted_on 0 c ≡ c
counted_from_none (Ok n) = refl
counted_from_none (Err Length) = refl
counted_from_none (Err (Mark place)) = rw zero-add
counted_from_none (Err (Kind place)) = rw zero-add

-- bindings that are good are so wherever they come
pub counted_good : (k : ℕ) (c : Result ℕ Flaw) {n : ℕ} → counted_on k c ≡ Ok n → c ≡ Ok n
counted_good k (Ok n) e = e
counted_good k (Err Length) e = cc
counted_good k (Err (Mark place)) e = cc
counted_good k (Err (Kind place)) e = cc

-- n bindings, all of them whole
pub record Bindings (s : List ℕ) (n : ℕ) : Type 0 where
  pub long : length s ≡ 8 * n
  pub within : n ≤ 4096
  pub each : (i : ℕ) → i < n → binding_starts (drop (8 * i) s) ≡ true

no_flaw : (b c : Bool) (x : Result ℕ Flaw) (f h : Flaw) {m : ℕ} → cond b (cond c x (Err f)) (Err h) ≡ Ok m → (b && c ≡ true) × (x ≡ Ok m)
no_flaw true true x f h e = (refl, e)
no_flaw true false x f h e = (cc, cc)
no_flaw false c x f h e = (cc, cc)

length_passed : (b : Bool) (x : Result ℕ Flaw) {m : ℕ} → cond b x (Err Length) ≡ Ok m → (b ≡ true) × (x ≡ Ok m)
length_passed true x e = (refl, e)
length_passed false x e = (cc, cc)

-- a check that ends well
passes : (s : List ℕ) (k n m : ℕ) → first_flaw k n s ≡ Ok m → (m ≡ k + n) × ((i : ℕ) → i < n → formed (drop (8 * i) s) ≡ true)
unfolding first_flaw
passes s k zero m e = let q : m ≡ k = cc in (omega arith, λ i l. absurd (omega arith))
passes s k (suc n) m e =
    let p = no_flaw (marked s) (kind_ok s) (first_flaw (suc k) n (drop 8 s)) (Kind (suc k)) (Mark (suc k)) e in
    let r = passes (drop 8 s) (suc k) n m p.1 in
    (omega (arith, r.0), by p.0 r.1)
  where
    by : formed s ≡ true → ((i : ℕ) → i < n → formed (drop (8 * i) (drop 8 s)) ≡ true) → (i : ℕ) → i < suc n → formed (drop (8 * i) s) ≡ true
    by f r zero l = f
    by f r (suc i) l = rw (mul-suc, add_comm (8 * i) 8, ← drop-drop) (r i (omega arith))

ends_well : (s : List ℕ) (k n : ℕ) → ((i : ℕ) → i < n → formed (drop (8 * i) s) ≡ true) → first_flaw k n s ≡ Ok (k + n)
unfolding first_flaw
ends_well s k zero f = let e : k + 0 ≡ k = omega arith in rw e
ends_well s k (suc n) f =
    let e : k + suc n ≡ suc k + n = omega arith in
    let b = both (marked s) (kind_ok s) (f 0 (omega arith)) in
    rw (b.0, b.1, e) (ends_well (drop 8 s) (suc k) n (λ i l. rw (drop-drop, add_comm 8 (8 * i), ← mul-suc) (f (suc i) (omega arith))))

module _ (s : List ℕ) where
  pub whole : {n : ℕ} → checked_context s ≡ Ok n → Bindings s n
  unfolding checked_context binding_starts
  whole {n} e =
      let c = length_passed (length_ok s) (first_flaw 0 (length s / 8) s) e in
      let l = both (eqb (length s % 8) 0) (leb (length s) (8 * 4096)) c.0 in
      let p = passes s 0 (length s / 8) n c.1 in
      let d = eqb-true (length s % 8) 0 l.0 in
      let w = leb-true (length s) (8 * 4096) l.1 in
      let long : length s ≡ 8 * n = omega (arith, p.0) in
      record {
        long = long;
        within = omega arith;
        each = λ i h. rw (le-leb 8 (length (drop (8 * i) s)) (simp length-drop (omega arith))) (p.1 i (omega arith));
      }

  pub is_accepted_lem : {n : ℕ} → Bindings s n → checked_context s ≡ Ok n
  unfolding checked_context binding_starts
  is_accepted_lem {n} b =
      let d : length s % 8 ≡ 0 = omega (arith, b.long) in
      let w : length s ≤ 8 * 4096 = omega (arith, b.long, b.within) in
      let e : length s / 8 ≡ n = omega (arith, b.long) in
      let z : 0 + n ≡ n = omega arith in
      let f : (i : ℕ) → i < n → formed (drop (8 * i) s) ≡ true = λ i h. (both (leb 8 (length (drop (8 * i) s))) (formed (drop (8 * i) s)) (b.each i h)).1 in
      rw (eq-eqb (length s % 8) 0 d, le-leb (length s) (8 * 4096) w, e) (rw z at (ends_well s 0 n f))

  -- a context that is accepted has at most 4,096 bindings, and no byte more
  pub context_within : (n : ℕ) → checked_context s ≡ Ok n → (n ≤ 4096) × (8 * n ≤ length s)
  context_within n e = let b = whole e in (b.within, omega (arith, b.long))

  pub context_long : (n : ℕ) → checked_context s ≡ Ok n → length s ≡ 8 * n
  context_long n e = (whole e).long
