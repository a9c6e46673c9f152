-- One variable of those to copy.
use Prim.Native.Nat.{ℕ, suc, ◌+◌, ◌-◌, ◌≤◌, ◌<◌}
use mathlib.Core.Path.{◌≡◌}
use mathlib.Core.Bool.{Bool}
use mathlib.Core.List.{List}
use native.Mathlib.Omega.{arith}
use Rattle.trees.specs.Tree.{seq}
use Rattle.emit.specs.declared.cursor.Cursor.{Cursor}
use Rattle.emit.specs.Emitted.{Emits}
use Rattle.emit.proofs.Laws.{emits_nop}
use Rattle.layout.specs.declared.config.Shape.{Shape}
use Rattle.order_spec.specs.Writes.{copy_variable, copy_to}

-- of n, where i are copied
pub none_yet : (g : Shape) (ext : Bool) (a v n : ℕ) → copy_to g ext a (v + 0) (n - 0) ≡ copy_to g ext a v n
none_yet g ext a v n = let e : v + 0 ≡ v = omega arith in let m : n - 0 ≡ n = omega arith in rw (e, m)

pub next_copy : (g : Shape) (ext : Bool) (a v n i : ℕ) → i < n → copy_to g ext a (v + i) (n - i) ≡ seq (copy_variable g ext a (v + i)) (copy_to g ext a (v + (i + 1)) (n - (i + 1)))
next_copy g ext a v n i h = let m : n - i ≡ suc (n - (i + 1)) = omega arith in let e : v + (i + 1) ≡ suc (v + i) = omega arith in rw (m, e)

pub none_copied : {o : List ℕ} {p : Cursor} (g : Shape) (ext : Bool) (a v : ℕ) {n : ℕ} → n ≡ 0 → Emits o p o p (copy_to g ext a v n)
none_copied g ext a v e = rw e emits_nop

pub all_copied : {o : List ℕ} {p : Cursor} (g : Shape) (ext : Bool) (a v n i : ℕ) → n ≤ i → Emits o p o p (copy_to g ext a (v + i) (n - i))
all_copied g ext a v n i h = none_copied g ext a (v + i) (omega arith)
