-- Flattening a tree from a later counter, and how many records that gives.
use Prim.Native.Nat.{ℕ, ◌+◌}
use mathlib.Core.Path.{◌≡◌, refl, ap, ◌∙◌}
use native.Mathlib.Nat.{add-zero, add_assoc}
use native.Mathlib.Omega.{arith}
use lib.ListN.{length, length-append}
use Rattle.trees.specs.Tree.{Tree, nop, leaf, seq, skip_if_zero, if_zero, labels, size, flat_at, flat}

flat_shift : (t : Tree) (c m n : ℕ) → flat_at t (c + m) n ≡ flat_at t c (m + n)
flat_shift nop c m n = refl
flat_shift (leaf x p) c m n = refl
flat_shift (seq t u) c m n = simp (flat_shift t, flat_shift u, add_assoc)
flat_shift (skip_if_zero x p t) c m n = simp (flat_shift t, add_assoc)
flat_shift (if_zero x p t e) c m n = simp (flat_shift t, flat_shift e, add_assoc)

-- a counter that is n further on
pub flat_from : (t : Tree) (c n : ℕ) → flat t (c + n) ≡ flat_at t c n
flat_from t c n = flat_shift t c n 0 ∙ ap (flat_at t c) (add-zero n)

pub length_flat : (t : Tree) (c n : ℕ) → length (flat_at t c n) ≡ size t
length_flat nop c n = refl
length_flat (leaf x p) c n = refl
length_flat (seq t u) c n =
    omega (arith, length_flat t c n, length_flat u c (n + labels t), length-append (flat_at t c n) (flat_at u c (n + labels t)))
length_flat (skip_if_zero x p t) c n = simp length-append (omega (arith, length_flat t c n))
length_flat (if_zero x p t e) c n = simp length-append (omega (arith, length_flat t c n, length_flat e c (n + labels t)))
