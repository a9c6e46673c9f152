-- An order that is read or written: which fields it uses, its parts in bytes, and the answer.
use Rattle.records.specs.Checked.{malformed}
use Rattle.std.specs.Prelude.{None, Some, Err, Ok}
use Prim.Native.Nat.{ℕ, zero, suc, ◌+◌, ◌-◌, ◌≤◌, ◌<◌}
use mathlib.Core.Path.{◌≡◌, refl, ◌∙◌}
use mathlib.Core.Bool.{Bool, true, false, ◌&&◌, cond}
use mathlib.Core.List.{List, [], ◌∷◌, ◌++◌}
use native.Mathlib.Omega.{arith}
use lib.Dec.{leb, ltb, eqb, leb→le, leb-suc-suc}
use lib.ListN.{length, get_or}
use lib.Seq.{sets}
use borrow.Author.Tests.{eq-eqb, ne_eqb, le-leb, lt-leb, leb-true}
use Rattle.records.specs.declared.order.Order.{Order}
use Rattle.records.specs.declared.order.OrderFields.{OrderFields}
use Rattle.records.specs.Bytes.{le, stored}
use Rattle.records.specs.Orders.{order_of, flags, used_by_order, largest_in_order, order_operands_ok, order_ok, order_bytes, order_in, order_starts, order_start, order_read}
use Rattle.records.proofs.Conditions.{and_left, and_right}
use Rattle.records.proofs.Storing.{sets_then, stored_whole, stored_nothing}
use Rattle.records.proofs.Table.{at}
use Rattle.records.proofs.Uses.{word_most}

-- each code has a flag, so that one below their number is at most the last
flag_most : (code flag : ℕ) → 1 ≤ code → code ≤ 7 → ltb flag (get_or flags (code - 1) 0) ≡ leb flag (get_or flags (code - 1) 0 - 1)
flag_most code flag l h =
    below (get_or flags (code - 1) 0) (leb→le 1 (get_or flags (code - 1) 0) (at (λ k x. leb 1 x) flags tt (code - 1) (omega arith)))
  where
    below : (n : ℕ) → 1 ≤ n → ltb flag n ≡ leb flag (n - 1)
    below zero p = absurd (omega arith)
    below (suc n) p = let e : suc n - 1 ≡ n = omega arith in rw e (leb-suc-suc flag n)

module _ (f : OrderFields) where
  pub code_zero : f.code ≡ 0 → false ≡ order_ok f
  unfolding order_ok
  code_zero e = rw e

  pub code_above : 7 < f.code → false ≡ order_ok f
  unfolding order_ok
  code_above h = rw (le-leb 1 f.code (omega arith), lt-leb f.code 7 h)

  -- where m has the largest values
  pub by_most : {m : OrderFields} → (f.code ≡ 0 → ⊥) → f.code ≤ 7 → m ≡ largest_in_order f.code
      → f.a ≤ 4294967295 → f.b ≤ 4294967295 → f.n ≤ 4294967295 → f.value ≤ 18446744073709551615
      → order_ok f ≡ (leb f.flag m.flag && (leb f.a m.a && leb f.b m.b && leb f.n m.n && leb f.value m.value))
  unfolding order_ok order_operands_ok largest_in_order
  by_most nz h e af bf nf vf =
      let u = used_by_order f.code in
      let l : 1 ≤ f.code = omega arith in
      rw (
        e,
        le-leb 1 f.code l,
        le-leb f.code 7 h,
        flag_most f.code f.flag l h,
        word_most (eqb u.a 1) f.a 4294967295 af,
        word_most (eqb u.b 1) f.b 4294967295 bf,
        word_most (eqb u.n 1) f.n 4294967295 nf,
        word_most (eqb u.value 1) f.value 18446744073709551615 vf,
      )

  pub ok_code : order_ok f ≡ true → (1 ≤ f.code) × (f.code ≤ 7)
  unfolding order_ok
  ok_code e =
      let b₀ = leb 1 f.code in
      let b₁ = leb f.code 7 in
      let b₂ = ltb f.flag (get_or flags (f.code - 1) 0) in
      let r = and_left (b₀ && b₁) b₂ (and_left (b₀ && b₁ && b₂) (order_operands_ok (used_by_order f.code) f) e) in
      (leb-true 1 f.code (and_left b₀ b₁ r), leb-true f.code 7 (and_right b₀ b₁ r))

module _ (s : List ℕ) where
  pub starts_short : length s < 24 → false ≡ order_starts s
  unfolding order_starts
  starts_short h = rw (lt-leb 24 (length s) h)

  pub starts_ok : order_starts s ≡ true → order_ok (order_in s) ≡ true
  unfolding order_starts
  starts_ok e = and_right (leb 24 (length s) && eqb (get_or s 0 0) 0xA8 && eqb (get_or s 3 0) 0) (order_ok (order_in s)) e

  module _ (h : 24 ≤ length s) where
    pub unmarked : (get_or s 0 0 ≡ 0xA8 → ⊥) → false ≡ order_starts s
    unfolding order_starts
    unmarked n = rw (le-leb 24 (length s) h, ne_eqb (get_or s 0 0) 0xA8 n)

    pub not_zero : get_or s 0 0 ≡ 0xA8 → (get_or s 3 0 ≡ 0 → ⊥) → false ≡ order_starts s
    unfolding order_starts
    not_zero m n = rw (le-leb 24 (length s) h, eq-eqb (get_or s 0 0) 0xA8 m, ne_eqb (get_or s 3 0) 0 n)

    pub marked : {f : OrderFields} {b : Bool} → get_or s 0 0 ≡ 0xA8 → get_or s 3 0 ≡ 0 → f ≡ order_in s → b ≡ order_ok f → b ≡ order_starts s
    unfolding order_starts
    marked m z q e = rw (le-leb 24 (length s) h, eq-eqb (get_or s 0 0) 0xA8 m, eq-eqb (get_or s 3 0) 0 z, ← q) e

  pub not_started : false ≡ order_starts s → None ≡ order_start s
  unfolding order_start
  not_started e = rw (← e)

  pub started : {o : Order} {f : OrderFields} → true ≡ order_starts s → f ≡ order_in s → o ≡ order_of f → Some o ≡ order_start s
  unfolding order_start
  started e q p = rw (← e, p, q)

  pub told : {o : Order} → order_start s ≡ Some o → (order_starts s ≡ true) × (o ≡ order_of (order_in s))
  unfolding order_start
  told {o} e = by (order_starts s) e
    where
      by : (b : Bool) → cond b (Some (order_of (order_in s))) None ≡ Some o → (b ≡ true) × (o ≡ order_of (order_in s))
      by true e = (refl, cc)
      by false e = (cc, cc)

  pub none_told : order_start s ≡ None → order_starts s ≡ false
  unfolding order_start
  none_told e = by (order_starts s) e
    where
      by : (b : Bool) → cond b (Some (order_of (order_in s))) None ≡ None → b ≡ false
      by true e = cc
      by false e = refl

  pub read_bad : order_starts s ≡ false → Err (malformed 1) ≡ order_read s
  unfolding order_read
  read_bad t = rw t

  pub read_surplus : order_starts s ≡ true → (length s ≡ 24 → ⊥) → Err (malformed 2) ≡ order_read s
  unfolding order_read
  read_surplus t n = rw (t, ne_eqb (length s) 24 n)

  pub read_whole : {o : Order} → order_starts s ≡ true → o ≡ order_of (order_in s) → length s ≡ 24 → Ok o ≡ order_read s
  unfolding order_read
  read_whole t p n = rw (t, eq-eqb (length s) 24 n, p)

-- the five parts of an order
module _ (o : List ℕ) (i : ℕ) (f : OrderFields) where
  pub order_stored : {o₁ o₂ o₃ o₄ o₅ : List ℕ} → i + 24 ≤ length o
      → o₁ ≡ sets o i (0xA8 ∷ f.code ∷ f.flag ∷ 0 ∷ [])
      → o₂ ≡ sets o₁ (i + 4) (le 4 f.a)
      → o₃ ≡ sets o₂ (i + 8) (le 4 f.b)
      → o₄ ≡ sets o₃ (i + 12) (le 4 f.n)
      → o₅ ≡ sets o₄ (i + 16) (le 8 f.value)
      → o₅ ≡ stored o i (order_bytes f)
  unfolding order_bytes le
  order_stored h e₁ e₂ e₃ e₄ e₅ =
      let head : List ℕ = 0xA8 ∷ f.code ∷ f.flag ∷ 0 ∷ [] in
      let p₁ = sets o i head in
      let p₂ = sets p₁ (i + 4) (le 4 f.a) in
      let p₃ = sets p₂ (i + 8) (le 4 f.b) in
      rw (e₅, e₄, e₃, e₂, e₁)
      (sets_then (le 4 f.n) (le 8 f.value) p₃ (i + 12) (i + 16) (omega arith)
      ∙ sets_then (le 4 f.b) (le 4 f.n ++ le 8 f.value) p₂ (i + 8) (i + 12) (omega arith)
      ∙ sets_then (le 4 f.a) (le 4 f.b ++ (le 4 f.n ++ le 8 f.value)) p₁ (i + 4) (i + 8) (omega arith)
      ∙ sets_then head (le 4 f.a ++ (le 4 f.b ++ (le 4 f.n ++ le 8 f.value))) o i (i + 4) (omega arith)
      ∙ stored_whole o i (order_bytes f) h)

  pub order_too_long : length o < i + 24 → o ≡ stored o i (order_bytes f)
  unfolding order_bytes le
  order_too_long h = stored_nothing o i (order_bytes f) h
