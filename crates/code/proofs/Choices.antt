-- A choice between two trees by a test, from the part that the test chose.
use Prim.Native.Nat.{ℕ, ◌≤◌, ◌<◌}
use mathlib.Core.Path.{◌≡◌}
use mathlib.Core.Bool.{Bool, true, false, cond}
use mathlib.Core.List.{List}
use lib.Dec.{ltb, eqb}
use borrow.Author.Tests.{lt-ltb, le-ltb, eq-eqb, ne_eqb}
use Rattle.trees.specs.Tree.{Tree}
use Rattle.emit.specs.declared.cursor.Cursor.{Cursor}
use Rattle.emit.specs.Emitted.{Emits}

module _ {o o' : List ℕ} {p q : Cursor} (t u : Tree) where
  when : (b : Bool) → b ≡ true → Emits o p o' q t → Emits o p o' q (cond b t u)
  when b e d = rw e d

  unless : (b : Bool) → b ≡ false → Emits o p o' q u → Emits o p o' q (cond b t u)
  unless b e d = rw e d

  pub on_register : {w : ℕ} → w < 16 → Emits o p o' q t → Emits o p o' q (cond (ltb w 16) t u)
  on_register {w} h = when (ltb w 16) (lt-ltb w 16 h)

  pub on_spill : {w : ℕ} → 16 ≤ w → Emits o p o' q u → Emits o p o' q (cond (ltb w 16) t u)
  on_spill {w} h = unless (ltb w 16) (le-ltb w 16 h)

  pub on_same : {w x : ℕ} → w ≡ x → Emits o p o' q t → Emits o p o' q (cond (eqb w x) t u)
  on_same {w} {x} h = when (eqb w x) (eq-eqb w x h)

  pub on_other : {w x : ℕ} → (w ≡ x → ⊥) → Emits o p o' q u → Emits o p o' q (cond (eqb w x) t u)
  on_other {w} {x} h = unless (eqb w x) (ne_eqb w x h)
