-- A binding read at a byte, and stored.
use Prim.Native.Nat.{ℕ, ◌+◌, ◌≤◌, ◌<◌}
use mathlib.Core.Path.{◌≡◌, ◌∙◌}
use mathlib.Core.List.{List, [], ◌∷◌}
use native.Mathlib.Omega.{arith}
use lib.ListN.{length, get_or, drop}
use lib.Seq.{get_or-drop, sets}
use Rattle.records.specs.declared.binding.Kind.{Kind}
use Rattle.records.specs.declared.binding.Binding.{Binding}
use Rattle.records.specs.Bytes.{le, number, stored}
use Rattle.records.specs.Contexts.{kind_byte, kind_of, binding_bytes, binding_in}
use Rattle.records.proofs.Numbers.{number_drop}
use Rattle.records.proofs.Storing.{sets_then, stored_whole, stored_nothing}

module _ (s : List ℕ) (i : ℕ) where
  pub binding_part : {k : Kind} {n : ℕ} → k ≡ kind_of (get_or s (i + 2) 0) → n ≡ number 4 s (i + 4) → record { kind = k; id = n } ≡ binding_in (drop i s)
  unfolding binding_in
  binding_part e₁ e₂ = simp (e₁, e₂, get_or-drop, number_drop)

-- the two parts of a binding
module _ (o : List ℕ) (i : ℕ) (b : Binding) where
  pub binding_stored : {k : ℕ} {o₁ o₂ : List ℕ} → i + 8 ≤ length o → k ≡ kind_byte b.kind
      → o₁ ≡ sets o i (0xA7 ∷ 0x01 ∷ k ∷ 0 ∷ []) → o₂ ≡ sets o₁ (i + 4) (le 4 b.id) → o₂ ≡ stored o i (binding_bytes b)
  unfolding binding_bytes le
  binding_stored h e e₁ e₂ =
      rw (e₂, e₁, e)
      (sets_then (0xA7 ∷ 0x01 ∷ kind_byte b.kind ∷ 0 ∷ []) (le 4 b.id) o i (i + 4) (omega arith)
      ∙ stored_whole o i (binding_bytes b) h)

  pub binding_too_long : length o < i + 8 → o ≡ stored o i (binding_bytes b)
  unfolding binding_bytes le
  binding_too_long h = stored_nothing o i (binding_bytes b) h
