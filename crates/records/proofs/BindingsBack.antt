-- A binding written as a record and read back, and a record read as a binding and written again.
use Prim.Native.Nat.{ℕ, ◌≤◌}
use mathlib.Core.Path.{◌≡◌, refl, sym}
use mathlib.Core.Bool.{Bool, true, false, ◌&&◌, cond}
use mathlib.Core.List.{List, ◌++◌}
use native.Mathlib.Omega.{arith}
use lib.Dec.{leb, eqb}
use lib.ListN.{length, get_or, drop}
use borrow.Author.Tests.{le-leb, leb-true, eqb-true, eqb-false}
use Rattle.records.specs.declared.binding.Kind.{Kind}
use Rattle.records.specs.declared.binding.Kind.TheVariants.{Linked, Ext}
use Rattle.records.specs.declared.binding.Binding.{Binding}
use Rattle.records.specs.Bytes.{le, number}
use Rattle.records.specs.Contexts.{kind_byte, kind_of, binding_bytes, binding_in, marked, kind_ok, binding_starts}
use Rattle.records.specs.ReadBack.{Bytes, WellFormedBinding}
use Rattle.records.proofs.Conditions.{both}
use Rattle.records.proofs.Digits.{number_le, le_number, first_four}
use Rattle.records.proofs.Joined.{Laws}

kind_listed : (k : Kind) → leb (kind_byte k) 1 ≡ true
kind_listed Linked = refl
kind_listed Ext = refl

kind_byte_lem : (k : Kind) → kind_of (kind_byte k) ≡ k
kind_byte_lem Linked = refl
kind_byte_lem Ext = refl

byte_kind : (x : ℕ) → x ≤ 1 → kind_byte (kind_of x) ≡ x
byte_kind x h = by (eqb x 0) refl
  where
    by : (b : Bool) → eqb x 0 ≡ b → kind_byte (cond b Linked Ext) ≡ x
    by true e = sym (eqb-true x 0 e)
    by false e = let n = eqb-false x 0 e in omega arith

module _ (b : Binding) (rest : List ℕ) where
  starts : binding_starts (binding_bytes b ++ rest) ≡ true
  unfolding binding_starts binding_bytes le
  starts = rw (le-leb 8 (length (binding_bytes b ++ rest)) (omega arith), kind_listed b.kind)

  binding_in_lem : WellFormedBinding b → binding_in (binding_bytes b ++ rest) ≡ b
  unfolding binding_in binding_bytes number le
  binding_in_lem h = rw (kind_byte_lem b.kind, number_le 4 b.id h)

module _ (s : List ℕ) (e : binding_starts s ≡ true) where
  parts : (8 ≤ length s) × (get_or s 0 0 ≡ 0xA7) × (get_or s 1 0 ≡ 0x01) × (get_or s 2 0 ≤ 1) × (get_or s 3 0 ≡ 0)
  unfolding binding_starts
  parts =
      let p = both (leb 8 (length s)) (marked s && kind_ok s) e in
      let q = both (marked s) (kind_ok s) p.1 in
      let m = both (eqb (get_or s 0 0) 0xA7) (eqb (get_or s 1 0) 0x01) q.0 in
      let k = both (leb (get_or s 2 0) 1) (eqb (get_or s 3 0) 0) q.1 in
      (leb-true 8 _ p.0, eqb-true _ 0xA7 m.0, eqb-true _ 0x01 m.1, leb-true _ 1 k.0, eqb-true _ 0 k.1)

  written : Bytes s → binding_bytes (binding_in s) ++ drop 8 s ≡ s
  unfolding binding_bytes binding_in le
  written bytes =
      rw (byte_kind (get_or s 2 0) parts.3, le_number s bytes 4 4 parts.0)
      (rw (parts.1, parts.2, parts.4) at (first_four s (omega (arith, parts.0))))

pub binding_laws : Laws 8 binding_bytes binding_starts binding_in WellFormedBinding
unfolding binding_bytes le
binding_laws = record { long = λ b. refl; good = λ b rest h. starts b rest; same = binding_in_lem; back = written }
