-- Stores one after the other are one store of the bytes together.
use Prim.Native.Nat.{ℕ, suc, ◌+◌, ◌≤◌, ◌<◌}
use mathlib.Core.Path.{◌≡◌, ◌∙◌}
use mathlib.Core.List.{List, [], ◌∷◌, ◌++◌}
use native.Mathlib.Nat.{add-zero, add-suc, suc-add}
use native.Mathlib.Omega.{arith}
use lib.ListN.{length}
use lib.Seq.{sets}
use borrow.Author.Tests.{le-leb, lt-leb}
use Rattle.records.specs.declared.code.Fields.{Fields}
use Rattle.records.specs.Bytes.{le, stored}
use Rattle.records.specs.Instructions.{fields_bytes}

sets_append : (xs ys l : List ℕ) (i : ℕ) → sets (sets l i xs) (i + length xs) ys ≡ sets l i (xs ++ ys)
sets_append [] ys l i = rw add-zero
sets_append (x ∷ xs) ys l i = rw (add-suc, ← suc-add i) (sets_append xs ys _ (suc i))

pub sets_then : (xs ys l : List ℕ) (i j : ℕ) → i + length xs ≡ j → sets (sets l i xs) j ys ≡ sets l i (xs ++ ys)
sets_then xs ys l i j e = rw (← e) (sets_append xs ys l i)

module _ (o : List ℕ) (i : ℕ) (bs : List ℕ) where
  pub stored_whole : i + length bs ≤ length o → sets o i bs ≡ stored o i bs
  unfolding stored
  stored_whole h = rw (le-leb (i + length bs) (length o) h)

  pub stored_nothing : length o < i + length bs → o ≡ stored o i bs
  unfolding stored
  stored_nothing h = rw (lt-leb (i + length bs) (length o) h)

-- the four parts of an instruction record
module _ (o : List ℕ) (i : ℕ) (f : Fields) where
  pub fields_stored : {o₁ o₂ o₃ o₄ : List ℕ} → i + 24 ≤ length o
      → o₁ ≡ sets o i (0xA9 ∷ f.code ∷ f.a ∷ f.b ∷ [])
      → o₂ ≡ sets o₁ (i + 4) (le 4 f.label)
      → o₃ ≡ sets o₂ (i + 8) (le 8 f.offset)
      → o₄ ≡ sets o₃ (i + 16) (le 8 f.value)
      → o₄ ≡ stored o i (fields_bytes f)
  unfolding fields_bytes le
  fields_stored h e₁ e₂ e₃ e₄ =
      rw (e₄, e₃, e₂, e₁)
      (sets_then (le 8 f.offset) (le 8 f.value) (sets (sets o i (0xA9 ∷ f.code ∷ f.a ∷ f.b ∷ [])) (i + 4) (le 4 f.label)) (i + 8) (i + 16) (omega arith)
      ∙ sets_then (le 4 f.label) (le 8 f.offset ++ le 8 f.value) (sets o i (0xA9 ∷ f.code ∷ f.a ∷ f.b ∷ [])) (i + 4) (i + 8) (omega arith)
      ∙ sets_then (0xA9 ∷ f.code ∷ f.a ∷ f.b ∷ []) (le 4 f.label ++ (le 8 f.offset ++ le 8 f.value)) o i (i + 4) (omega arith)
      ∙ stored_whole o i (fields_bytes f) h)

  pub fields_too_long : length o < i + 24 → o ≡ stored o i (fields_bytes f)
  unfolding fields_bytes le
  fields_too_long h = stored_nothing o i (fields_bytes f) h
