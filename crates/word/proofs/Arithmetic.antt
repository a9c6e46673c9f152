-- Arithmetic of words: the signed quotient and remainder.
use Rattle.std.proofs.Common.{◌≡◌, ℕ, zero, suc, ◌-◌, ◌/◌, ◌%◌, ◌^◌, ◌<◌, ◌≤◌, Bool, true, false, refl, ℤ, pos, w64, ◌∙◌, arith, le-ltb, le-leb}
use Rattle.std.specs.Int.{cast_unsigned, cast_signed}
use Rattle.std.specs.Int.RustNames.{int_div, int_rem}
use Rattle.std.proofs.lemmas.Int.{of_z-to_z, to_z_pos}
use Rattle.std.proofs.Math.Nat.{div-le_self, mod-le}
use lib.Dec.{ltb}
use lib.IntN.{neg_ℤ, negsuc}
use borrow.Author.Tests.{lt-leb, ltb-true, ltb-false}
use Rattle.word.specs.Words.{signed, differ, negative, magnitude, negated, quotient, remainder}

minus : (q : ℕ) → q < 2 ^ 64 → cast_unsigned w64 (neg_ℤ (pos q)) ≡ negated q
unfolding negated
minus zero h = refl
minus (suc n) h = omega arith

below : (x : ℕ) → 2 ^ 63 ≤ x → cast_signed w64 x ≡ negsuc (2 ^ 64 - suc x)
below x h = rw (le-ltb x (2 ^ 63) h)

module _ (x d : ℕ) (h : x < 2 ^ 64) (g : d < 2 ^ 64) where
  quotients : cast_unsigned w64 (int_div (cast_signed w64 x) (cast_signed w64 d)) ≡ quotient x d
  unfolding quotient magnitude
  quotients = by (ltb x (2 ^ 63)) refl (ltb d (2 ^ 63)) refl
    where
      by : (a : Bool) → ltb x (2 ^ 63) ≡ a → (b : Bool) → ltb d (2 ^ 63) ≡ b → cast_unsigned w64 (int_div (cast_signed w64 x) (cast_signed w64 d)) ≡ quotient x d
      by true e true f = rw (to_z_pos w64 x (ltb-true _ _ e), to_z_pos w64 d (ltb-true _ _ f), lt-leb _ _ (ltb-true _ _ e), lt-leb _ _ (ltb-true _ _ f))
      by true e false f =
          let k : 2 ^ 63 ≤ d = ltb-false _ _ f in
          let s : suc (2 ^ 64 - suc d) ≡ 2 ^ 64 - d = omega arith in
          rw (to_z_pos w64 x (ltb-true _ _ e), below d k, lt-leb _ _ (ltb-true _ _ e), le-leb _ _ k, s) (minus (x / (2 ^ 64 - d)) (omega (arith, div-le_self x (2 ^ 64 - d))))
      by false e true f =
          let k : 2 ^ 63 ≤ x = ltb-false _ _ e in
          let s : suc (2 ^ 64 - suc x) ≡ 2 ^ 64 - x = omega arith in
          rw (below x k, to_z_pos w64 d (ltb-true _ _ f), le-leb _ _ k, lt-leb _ _ (ltb-true _ _ f), s) (minus ((2 ^ 64 - x) / d) (omega (arith, div-le_self (2 ^ 64 - x) d)))
      by false e false f =
          let k : 2 ^ 63 ≤ x = ltb-false _ _ e in
          let l : 2 ^ 63 ≤ d = ltb-false _ _ f in
          let s : suc (2 ^ 64 - suc x) ≡ 2 ^ 64 - x = omega arith in
          let r : suc (2 ^ 64 - suc d) ≡ 2 ^ 64 - d = omega arith in
          rw (below x k, below d l, le-leb _ _ k, le-leb _ _ l, s, r)

  remainders : cast_unsigned w64 (int_rem (cast_signed w64 x) (cast_signed w64 d)) ≡ remainder x d
  unfolding remainder magnitude
  remainders = by (ltb x (2 ^ 63)) refl (ltb d (2 ^ 63)) refl
    where
      by : (a : Bool) → ltb x (2 ^ 63) ≡ a → (b : Bool) → ltb d (2 ^ 63) ≡ b → cast_unsigned w64 (int_rem (cast_signed w64 x) (cast_signed w64 d)) ≡ remainder x d
      by true e true f = rw (to_z_pos w64 x (ltb-true _ _ e), to_z_pos w64 d (ltb-true _ _ f), lt-leb _ _ (ltb-true _ _ e), lt-leb _ _ (ltb-true _ _ f))
      by true e false f =
          let k : 2 ^ 63 ≤ d = ltb-false _ _ f in
          let s : suc (2 ^ 64 - suc d) ≡ 2 ^ 64 - d = omega arith in
          rw (to_z_pos w64 x (ltb-true _ _ e), below d k, lt-leb _ _ (ltb-true _ _ e), le-leb _ _ k, s)
      by false e true f =
          let k : 2 ^ 63 ≤ x = ltb-false _ _ e in
          let s : suc (2 ^ 64 - suc x) ≡ 2 ^ 64 - x = omega arith in
          rw (below x k, to_z_pos w64 d (ltb-true _ _ f), le-leb _ _ k, lt-leb _ _ (ltb-true _ _ f), s) (minus ((2 ^ 64 - x) % d) (omega (arith, mod-le (2 ^ 64 - x) d)))
      by false e false f =
          let k : 2 ^ 63 ≤ x = ltb-false _ _ e in
          let l : 2 ^ 63 ≤ d = ltb-false _ _ f in
          let s : suc (2 ^ 64 - suc x) ≡ 2 ^ 64 - x = omega arith in
          let r : suc (2 ^ 64 - suc d) ≡ 2 ^ 64 - d = omega arith in
          rw (below x k, below d l, le-leb _ _ k, le-leb _ _ l, s, r) (minus ((2 ^ 64 - x) % (2 ^ 64 - d)) (omega (arith, mod-le (2 ^ 64 - x) (2 ^ 64 - d))))

  small : magnitude x < 2 ^ 64
  unfolding magnitude
  small = by (ltb x (2 ^ 63)) refl
    where
      by : (a : Bool) → ltb x (2 ^ 63) ≡ a → magnitude x < 2 ^ 64
      by true e = rw (lt-leb _ _ (ltb-true _ _ e)) h
      by false e = let k : 2 ^ 63 ≤ x = ltb-false _ _ e in rw (le-leb _ _ k) (omega arith)

  fits : (b : Bool) (q : ℕ) → q ≤ magnitude x → signed b q < 2 ^ 64
  unfolding negated
  fits true q l = omega arith
  fits false q l = omega (arith, small)

  pub signed_quotient : {a b r : ℤ} {n : ℕ} → a ≡ cast_signed w64 x → b ≡ cast_signed w64 d → r ≡ cast_signed w64 (cast_unsigned w64 (int_div (cast_signed w64 (cast_unsigned w64 a)) (cast_signed w64 (cast_unsigned w64 b))))
      → n ≡ cast_unsigned w64 (cast_signed w64 (cast_unsigned w64 r)) → n ≡ quotient x d
  unfolding quotient
  signed_quotient p q o e =
      let l = fits (differ (negative x) (negative d)) _ (div-le_self (magnitude x) (magnitude d)) in
      e ∙ rw (o, p, q, of_z-to_z w64 x h, of_z-to_z w64 d g, quotients, of_z-to_z w64 (quotient x d) l) (of_z-to_z w64 (quotient x d) l)

  pub signed_remainder : {a b r : ℤ} {n : ℕ} → a ≡ cast_signed w64 x → b ≡ cast_signed w64 d → r ≡ int_rem (cast_signed w64 (cast_unsigned w64 a)) (cast_signed w64 (cast_unsigned w64 b))
      → n ≡ cast_unsigned w64 (cast_signed w64 (cast_unsigned w64 r)) → n ≡ remainder x d
  unfolding remainder
  signed_remainder p q o e =
      let l = fits (negative x) _ (mod-le (magnitude x) (magnitude d)) in
      e ∙ rw (o, p, q, of_z-to_z w64 x h, of_z-to_z w64 d g, remainders) (of_z-to_z w64 (remainder x d) l)
