-- One binding of those to make.
use Prim.Native.Nat.{ℕ, zero, suc, ◌+◌, ◌*◌, ◌-◌, ◌≤◌, ◌<◌}
use mathlib.Core.Path.{◌≡◌, refl, ◌∙◌}
use mathlib.Core.List.{List}
use native.Mathlib.Omega.{arith}
use lib.ListN.{length, length-append}
use lib.Seq.{sets}
use Rattle.records.specs.declared.binding.Kind.{Kind}
use Rattle.records.specs.declared.binding.Binding.{Binding}
use Rattle.records.specs.Bytes.{le, stored}
use Rattle.records.specs.Contexts.{binding_bytes}
use Rattle.records.proofs.Storing.{sets_then, stored_whole}
use Rattle.order_spec.specs.Writes.{made, made_all}

pub binding_long : (b : Binding) → length (binding_bytes b) ≡ 8
unfolding binding_bytes le
binding_long b = refl

pub made_long : (kind : Kind) (place n : ℕ) → length (made_all kind place n) ≡ 8 * n
made_long kind place zero = refl
made_long kind place (suc n) =
    omega (arith, length-append (made kind place) (made_all kind (suc place) n), binding_long (record { kind = kind; id = place }), made_long kind (suc place) n)

-- n to make from a byte on, of which i are made
module _ (t : List ℕ) (at : ℕ) (kind : Kind) (place n : ℕ) where
  abbrev pub Left : ℕ → List ℕ → Type 0
  Left i o' = sets o' (at + 8 * i) (made_all kind (place + i) (n - i)) ≡ t

  pub none_yet : (o : List ℕ) → sets o at (made_all kind place n) ≡ t → Left 0 o
  none_yet o e = let z : at + 8 * 0 ≡ at = omega arith in let p : place + 0 ≡ place = omega arith in let m : n - 0 ≡ n = omega arith in rw (z, p, m) e

  pub next_made : (i : ℕ) (o₁ : List ℕ) {o₂ : List ℕ} → i < n → at + 8 * n ≤ length o₁ → o₂ ≡ stored o₁ (at + 8 * i) (made kind (place + i)) → Left i o₁ → Left (i + 1) o₂
  next_made i o₁ h l e left =
      let m : n - i ≡ suc (n - (i + 1)) = omega arith in
      let p : place + (i + 1) ≡ suc (place + i) = omega arith in
      let b = binding_long (record { kind = kind; id = place + i }) in
      let s = sets_then (made kind (place + i)) (made_all kind (suc (place + i)) (n - (i + 1))) o₁ (at + 8 * i) (at + 8 * (i + 1)) (omega arith) in
      rw (e, p, ← (stored_whole o₁ (at + 8 * i) (made kind (place + i)) (omega arith))) (s ∙ rw m at left)

  pub all_made : (i : ℕ) {o' : List ℕ} → n ≤ i → Left i o' → o' ≡ t
  all_made i h left = let z : n - i ≡ 0 = omega arith in rw z at left
