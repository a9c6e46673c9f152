-- Records as a list: a plain tree's, and a conditional jump's.
use Prim.Native.Nat.{ℕ, ◌+◌}
use mathlib.Core.Path.{◌≡◌, refl}
use mathlib.Core.List.{List}
use native.Mathlib.Omega.{arith}
use Rattle.records.specs.Codes.{fields, fields_of}
use Rattle.trees.specs.Tree.{Tree, nop, leaf, seq, skip_if_zero, if_zero, labels, flat_at, flat}
use Rattle.emit.specs.declared.cursor.Cursor.{Cursor}
use Rattle.emit.specs.Emitted.{fields_list, Emitted, Emits}
use Rattle.emit.proofs.Laws.{listed}
use Rattle.code.specs.declared.emitters.Condition.{Condition}
use Rattle.code.specs.declared.emitters.Condition.TheVariants.{Equal, NotEqual, Less, LessOrEqual, Greater, GreaterOrEqual}
use Rattle.code.specs.Code.{jump_if, condition_number}
use Rattle.code.proofs.Sizes.{Plain}

-- a tree that draws no labels has the same records from every counter
same_flat : (t : Tree) → labels t ≡ 0 → (c n d m : ℕ) → flat_at t c n ≡ flat_at t d m
same_flat nop z c n d m = refl
same_flat (leaf x s) z c n d m = refl
same_flat (seq t u) z c n d m =
    rw (same_flat t (omega arith) c n d m, same_flat u (omega arith) c (n + labels t) d (m + labels t))
same_flat (skip_if_zero x s t) z c n d m = absurd (omega arith)
same_flat (if_zero x s t e) z c n d m = absurd (omega arith)

-- a plain tree's records as a list
pub plain_list : {o o' : List ℕ} {p q : Cursor} {t : Tree} {n : ℕ} → Plain t n → Emits o p o' q t → Emitted o p o' q (fields_list (flat t 0)) 0
plain_list {p = p} {t = t} s d = rw (same_flat t s.none p.counter 0 0 0, s.none) at (listed d)

pub jump_fields : (k : Condition) (l : ℕ) → fields (condition_number k) 0 0 l 0 0 ≡ fields_of (jump_if k l)
jump_fields Equal l = refl
jump_fields NotEqual l = refl
jump_fields Less l = refl
jump_fields LessOrEqual l = refl
jump_fields Greater l = refl
jump_fields GreaterOrEqual l = refl
