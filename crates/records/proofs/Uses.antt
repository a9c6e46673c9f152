-- Each field as its code uses it, told by the largest value that it may hold.
use Prim.Native.Nat.{ℕ, zero, suc, ◌≤◌, ◌<◌}
use mathlib.Core.Path.{◌≡◌, refl, sym}
use mathlib.Core.Bool.{Bool, true, false, ◌&&◌, cond}
use native.Mathlib.Omega.{arith}
use lib.Dec.{leb, eqb, leb-suc-suc, leb-suc-zero, eqb-suc-zero}
use borrow.Author.Tests.{le-leb, lt-leb}
use Rattle.records.specs.declared.code.Fields.{Fields}
use Rattle.records.specs.Instructions.{used, register_ok, label_ok, word_ok, largest, label_within, operands_ok, fields_ok}

zero_most : (x : ℕ) → eqb x 0 ≡ leb x 0
zero_most zero = refl
zero_most (suc x) = rw (eqb-suc-zero x, leb-suc-zero x)

register_most : (b : Bool) (r : ℕ) → register_ok b r ≡ leb r (cond b 15 0)
register_most true r = leb-suc-suc r 15
register_most false r = zero_most r

pub word_most : (b : Bool) (w most : ℕ) → w ≤ most → word_ok b w ≡ leb w (cond b most 0)
word_most true w most h = sym (le-leb w most h)
word_most false w most h = zero_most w

label_most : (b : Bool) (l : ℕ) → l ≤ 4294967295 → label_ok b l ≡ label_within (cond b 4294967295 0) l
label_most true zero h = refl
label_most true (suc l) h = rw (eqb-suc-zero l, le-leb (suc l) 4294967295 h, le-leb 1 (suc l) (omega arith))
label_most false zero h = refl
label_most false (suc l) h = rw (eqb-suc-zero l, leb-suc-zero l)

-- the operands of f, where m has the largest values
module _ (u f : Fields) {m : Fields} (e : m ≡ largest u) where
  pub by_most : f.label ≤ 4294967295 → f.offset ≤ 18446744073709551615 → f.value ≤ 18446744073709551615
      → operands_ok u f
      ≡ (leb f.a m.a && leb f.b m.b && label_within m.label f.label && leb f.offset m.offset && leb f.value m.value)
  unfolding operands_ok largest
  by_most lf of vf =
      rw (
        e,
        register_most (eqb u.a 1) f.a,
        register_most (eqb u.b 1) f.b,
        label_most (eqb u.label 1) f.label lf,
        word_most (eqb u.offset 1) f.offset 18446744073709551615 of,
        word_most (eqb u.value 1) f.value 18446744073709551615 vf,
      )

module _ (f : Fields) where
  pub code_zero : f.code ≡ 0 → false ≡ fields_ok f
  unfolding fields_ok
  code_zero e = rw e

  pub code_above : 44 < f.code → false ≡ fields_ok f
  unfolding fields_ok
  code_above h = rw (le-leb 1 f.code (omega arith), lt-leb f.code 44 h)

  pub code_listed : {b : Bool} → (f.code ≡ 0 → ⊥) → f.code ≤ 44 → b ≡ operands_ok (used f.code) f → b ≡ fields_ok f
  unfolding fields_ok
  code_listed n h e = rw (le-leb 1 f.code (omega arith), le-leb f.code 44 h) e
