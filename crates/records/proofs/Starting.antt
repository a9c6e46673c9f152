-- The part of a list that starts at a record: how long it is, and its first byte.
use Prim.Native.Nat.{ℕ, ◌+◌, ◌≤◌, ◌<◌}
use mathlib.Core.Path.{◌≡◌}
use mathlib.Core.Bool.{true, false}
use mathlib.Core.List.{List}
use native.Mathlib.Nat.{add-zero}
use native.Mathlib.Omega.{arith}
use lib.Dec.{leb}
use lib.ListN.{length, get_or, drop, length-drop}
use lib.Seq.{get_or-drop}
use borrow.Author.Tests.{le-leb, lt-leb}

module _ (s : List ℕ) (i : ℕ) where
  pub too_short : (n : ℕ) → i ≤ length s → length s < i + n → leb n (length (drop i s)) ≡ false
  too_short n l h = lt-leb n (length (drop i s)) (simp length-drop (omega arith))

  pub long_enough : (n : ℕ) → i + n ≤ length s → leb n (length (drop i s)) ≡ true
  long_enough n h = le-leb n (length (drop i s)) (simp length-drop (omega arith))

  pub first_byte : get_or (drop i s) 0 0 ≡ get_or s i 0
  first_byte = rw (get_or-drop, add-zero)
