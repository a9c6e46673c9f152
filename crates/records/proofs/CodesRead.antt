-- An instruction record read at a byte: its fields, whether it is well formed, and its instruction.
use Rattle.std.specs.Prelude.{None, Some}
use Prim.Native.Nat.{ℕ, ◌+◌, ◌*◌, ◌/◌, ◌≤◌, ◌<◌}
use mathlib.Core.Path.{◌≡◌, sym, ◌∙◌}
use mathlib.Core.Bool.{Bool, true, false, ◌&&◌}
use mathlib.Core.List.{List}
use native.Mathlib.Omega.{arith}
use lib.Dec.{leb, eqb}
use lib.ListN.{length, get_or, drop, length-drop}
use lib.Seq.{get_or-drop}
use borrow.Author.Tests.{eq-eqb, ne_eqb, leb-true, lt-leb}
use Rattle.records.specs.declared.code.Code.{Code}
use Rattle.records.specs.declared.code.Fields.{Fields}
use Rattle.records.specs.Bytes.{number}
use Rattle.records.specs.Codes.{fields, code_of}
use Rattle.records.specs.Instructions.{fields_in, operands_ok, fields_ok, used, lab_with, code_starts, code_at}
use Rattle.records.proofs.Conditions.{and_left, and_right}
use Rattle.records.proofs.Numbers.{number_drop}
use Rattle.records.proofs.Starting.{too_short, long_enough, first_byte}

pub ok_code : (f : Fields) → fields_ok f ≡ true → (1 ≤ f.code) × (f.code ≤ 44)
unfolding fields_ok
ok_code f e =
    let b = and_left (leb 1 f.code && leb f.code 44) (operands_ok (used f.code) f) e in
    (leb-true 1 f.code (and_left (leb 1 f.code) (leb f.code 44) b), leb-true f.code 44 (and_right (leb 1 f.code) (leb f.code 44) b))

module _ (s : List ℕ) where
  pub starts_ok : code_starts s ≡ true → fields_ok (fields_in s) ≡ true
  unfolding code_starts
  starts_ok e = and_right (leb 24 (length s) && eqb (get_or s 0 0) 0xA9) (fields_ok (fields_in s)) e

  pub starts_whole : code_starts s ≡ true → 24 ≤ length s
  unfolding code_starts
  starts_whole e =
      leb-true 24 (length s)
      (and_left (leb 24 (length s)) (eqb (get_or s 0 0) 0xA9) (and_left (leb 24 (length s) && eqb (get_or s 0 0) 0xA9) (fields_ok (fields_in s)) e))

  pub part_code : {c : Code} {f : Fields} {b : Bool} (k : ℕ) → b ≡ code_starts (drop (24 * k) s) → b ≡ true → f ≡ fields_in (drop (24 * k) s) → c ≡ code_of f → Some c ≡ code_at s k
  unfolding code_at
  part_code k e t q p = rw (← e, t, p, q)

  pub part_bad : {b : Bool} (k : ℕ) → b ≡ code_starts (drop (24 * k) s) → b ≡ false → None ≡ code_at s k
  unfolding code_at
  part_bad k e t = rw (← e, t)

  -- past the last whole record
  pub part_none : (k : ℕ) → length s / 24 ≤ k → None ≡ code_at s k
  unfolding code_at code_starts
  part_none k h = rw (lt-leb 24 (length (drop (24 * k) s)) (simp length-drop (omega arith)))

module _ (s : List ℕ) (i : ℕ) where
  pub starts_room : {b : Bool} → b ≡ code_starts (drop i s) → b ≡ true → i + 24 ≤ length s
  starts_room e t = let w = simp length-drop at (starts_whole (drop i s) (sym e ∙ t)) in omega arith

  pub fields_part : {l o v : ℕ} → l ≡ number 4 s (i + 4) → o ≡ number 8 s (i + 8) → v ≡ number 8 s (i + 16)
      → fields (get_or s (i + 1) 0) (get_or s (i + 2) 0) (get_or s (i + 3) 0) l o v ≡ fields_in (drop i s)
  unfolding fields_in
  fields_part e₁ e₂ e₃ = simp (e₁, e₂, e₃, get_or-drop, number_drop)

  pub starts_short : i ≤ length s → length s < i + 24 → false ≡ code_starts (drop i s)
  unfolding code_starts
  starts_short l h = rw (too_short s i 24 l h)

  module _ (h : i + 24 ≤ length s) where
    pub starts_unmarked : (get_or s i 0 ≡ 0xA9 → ⊥) → false ≡ code_starts (drop i s)
    unfolding code_starts
    starts_unmarked n = rw (long_enough s i 24 h, first_byte s i, ne_eqb (get_or s i 0) 0xA9 n)

    pub starts_marked : {f : Fields} {b : Bool} → get_or s i 0 ≡ 0xA9 → f ≡ fields_in (drop i s) → b ≡ fields_ok f → b ≡ code_starts (drop i s)
    unfolding code_starts
    starts_marked m q e = rw (long_enough s i 24 h, first_byte s i, eq-eqb (get_or s i 0) 0xA9 m, ← q) e

-- LAB told by two of a record's fields
module _ (s : List ℕ) (i : ℕ) (label : ℕ) where
  pub label_unmarked : (get_or s (i + 1) 0 ≡ 40 → ⊥) → false ≡ lab_with label (fields_in (drop i s))
  unfolding fields_in
  label_unmarked n = rw (get_or-drop, ne_eqb (get_or s (i + 1) 0) 40 n)

  pub label_marked : {l : ℕ} → get_or s (i + 1) 0 ≡ 40 → l ≡ number 4 s (i + 4) → eqb l label ≡ lab_with label (fields_in (drop i s))
  unfolding fields_in
  label_marked e h = rw (get_or-drop, eq-eqb (get_or s (i + 1) 0) 40 e, number_drop, ← h)
