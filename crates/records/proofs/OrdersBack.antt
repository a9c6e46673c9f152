-- An order written as a record and read back, and a record read as an order and written again.
use Prim.Native.Nat.{ℕ, suc, ◌-◌, ◌≤◌, ◌<◌}
use mathlib.Core.Path.{◌≡◌, refl, ◌∙◌}
use mathlib.Core.Bool.{Bool, true, false, ◌&&◌}
use mathlib.Core.List.{List, ◌++◌}
use native.Mathlib.Omega.{arith}
use lib.Dec.{leb, eqb, eqb→eq}
use lib.ListN.{length, get_or, drop, replicate, length-replicate}
use borrow.Author.Tests.{le-leb, leb-true, ltb-true, eqb-true}
use Rattle.records.specs.declared.order.Calculation.TheVariants.{Add, Sub, Mul, Div, Rem}
use Rattle.records.specs.declared.order.Order.{Order}
use Rattle.records.specs.declared.order.Order.TheVariants.{Put, Compute, Copy, Drop, Store, Load, Print}
use Rattle.records.specs.declared.order.OrderFields.{OrderFields}
use Rattle.records.specs.Bytes.{le, number}
use Rattle.records.specs.Orders.{order_fields, order_fields_of, order_readers, order_of, flags, used_by_order, order_operands_ok, order_ok, order_bytes, order_in, order_starts}
use Rattle.records.specs.ReadBack.{Bytes, WellFormedOrder}
use Rattle.records.proofs.Conditions.{both}
use Rattle.records.proofs.Digits.{number_le, le_number, number_below, first_four}
use Rattle.records.proofs.Joined.{Laws}
use Rattle.records.proofs.Kept.{kept, kept_whole, kept_last, read_at}
use Rattle.records.proofs.OrdersRead.{ok_code}
use Rattle.records.proofs.Table.{every, at}

order_fields_lem : (o : Order) → order_of (order_fields_of o) ≡ o
unfolding order_of order_readers
order_fields_lem (Put v) = refl
order_fields_lem (Compute Add a b) = refl
order_fields_lem (Compute Sub a b) = refl
order_fields_lem (Compute Mul a b) = refl
order_fields_lem (Compute Div a b) = refl
order_fields_lem (Compute Rem a b) = refl
order_fields_lem (Copy a n) = refl
order_fields_lem Drop = refl
order_fields_lem (Store n v) = refl
order_fields_lem (Load n) = refl
order_fields_lem (Print true a) = refl
order_fields_lem (Print false a) = refl

-- a code's flag, read and written again
read_flag : ℕ → ℕ → ℕ
read_flag code flag = (order_fields_of (order_of (order_fields code flag 0 0 0 0))).flag

-- a test for each flag of a code, over a list with an entry for each flag
flag_kept : ℕ → ℕ → ℕ → Bool
flag_kept k flag entry = eqb (read_flag (suc k) flag) flag

flag_kept_lem : (code flag : ℕ) → 1 ≤ code → code ≤ 7 → flag < get_or flags (code - 1) 0 → read_flag code flag ≡ flag
unfolding read_flag flag_kept order_of order_readers
flag_kept_lem code flag l h n =
    let one : suc (code - 1) ≡ code = omega arith in
    let m = get_or flags (code - 1) 0 in
    let t = at (λ k m. every (flag_kept k) 0 (replicate m 0)) flags tt (code - 1) (omega arith) in
    rw one at (eqb→eq (read_flag (suc (code - 1)) flag) flag (at (flag_kept (code - 1)) (replicate m 0) t flag (rw length-replicate n)))

-- the fields of f that are used, where u has a 1 in those
abbrev kept_fields : ℕ → OrderFields → OrderFields → OrderFields
kept_fields code u f =
    order_fields code (read_flag code f.flag) (kept u.a f.a) (kept u.b f.b) (kept u.n f.n) (kept u.value f.value)

kept_fields_lem : (u f : OrderFields) → read_flag f.code f.flag ≡ f.flag → order_operands_ok u f ≡ true → kept_fields f.code u f ≡ f
unfolding order_operands_ok
kept_fields_lem u f flag e =
    let k₄ = kept_last _ u.value f.value _ e in
    let k₃ = kept_last _ u.n f.n _ k₄.0 in
    let k₂ = kept_last _ u.b f.b _ k₃.0 in
    rw (flag, kept_whole u.a f.a _ k₂.0, k₂.1, k₃.1, k₄.1)

ok_fields : (f : OrderFields) → order_ok f ≡ true → (f.flag < get_or flags (f.code - 1) 0) × (order_operands_ok (used_by_order f.code) f ≡ true)
unfolding order_ok
ok_fields f e =
    let p₂ = both _ (order_operands_ok (used_by_order f.code) f) e in
    let p₁ = both (leb 1 f.code && leb f.code 7) _ p₂.0 in
    (ltb-true f.flag _ p₁.1, p₂.1)

fields_order : (f : OrderFields) → order_ok f ≡ true → order_fields_of (order_of f) ≡ f
unfolding order_of order_readers used_by_order read_flag
fields_order f e =
    let r = ok_code f e in
    let p = ok_fields f e in
    read_at order_readers order_fields_of (λ code. kept_fields code (used_by_order code) f) 7 f refl f.code (λ (g : OrderFields). Drop) r.0 r.1
    ∙ kept_fields_lem (used_by_order f.code) f (flag_kept_lem f.code f.flag r.0 r.1 p.0) p.1

module _ (o : Order) (rest : List ℕ) (w : WellFormedOrder o) where
  fields_in_lem : order_in (order_bytes (order_fields_of o) ++ rest) ≡ order_fields_of o
  unfolding order_in order_bytes number le
  fields_in_lem =
      let f = order_fields_of o in
      rw (number_le 4 f.a w.a_fits, number_le 4 f.b w.b_fits, number_le 4 f.n w.n_fits, number_le 8 f.value w.value_fits)

  starts : order_starts (order_bytes (order_fields_of o) ++ rest) ≡ true
  unfolding order_starts order_bytes le
  starts = rw (fields_in_lem, w.ok, le-leb 24 (length (order_bytes (order_fields_of o) ++ rest)) (omega arith))

  order_in_lem : order_of (order_in (order_bytes (order_fields_of o) ++ rest)) ≡ o
  order_in_lem = rw fields_in_lem (order_fields_lem o)

module _ (s : List ℕ) (e : order_starts s ≡ true) where
  parts : (24 ≤ length s) × (get_or s 0 0 ≡ 0xA8) × (get_or s 3 0 ≡ 0) × (order_ok (order_in s) ≡ true)
  unfolding order_starts
  parts =
      let p₃ = both _ (order_ok (order_in s)) e in
      let p₂ = both _ (eqb (get_or s 3 0) 0) p₃.0 in
      let p₁ = both _ (eqb (get_or s 0 0) 0xA8) p₂.0 in
      (leb-true 24 _ p₁.0, eqb-true _ 0xA8 p₁.1, eqb-true _ 0 p₂.1, p₃.1)

  written : Bytes s → order_bytes (order_fields_of (order_of (order_in s))) ++ drop 24 s ≡ s
  unfolding order_bytes order_in le
  written bytes =
      let h = parts.0 in
      rw (
        fields_order (order_in s) parts.3,
        le_number s bytes 8 16 h,
        le_number s bytes 4 12 (omega arith),
        le_number s bytes 4 8 (omega arith),
        le_number s bytes 4 4 (omega arith),
      )
      (rw (parts.1, parts.2) at (first_four s (omega arith)))

  -- the order in bytes that start with one
  pub order_well_formed : Bytes s → WellFormedOrder (order_of (order_in s))
  unfolding order_in
  order_well_formed bytes =
      let h = parts.0 in
      let e = fields_order (order_in s) parts.3 in
      record {
        a_fits = rw e (number_below s bytes 4 4 (omega arith));
        b_fits = rw e (number_below s bytes 4 8 (omega arith));
        n_fits = rw e (number_below s bytes 4 12 (omega arith));
        value_fits = rw e (number_below s bytes 8 16 (omega arith));
        ok = rw e parts.3;
      }

pub order_laws : Laws 24 (λ o. order_bytes (order_fields_of o)) order_starts (λ s. order_of (order_in s)) WellFormedOrder
unfolding order_bytes le
order_laws = record { long = λ o. refl; good = starts; same = order_in_lem; back = written }
