-- How many of some variables are linked.
use Rattle.std.specs.Prelude.{ℕ, zero, suc, ◌+◌, Bool, true, false}

abbrev pub one_if_linked : Bool → ℕ
one_if_linked true = 0
one_if_linked false = 1

-- of the n variables from v on; `ext v` says that variable v is an integer
abbrev pub linked_in : (ℕ → Bool) → ℕ → ℕ → ℕ
linked_in ext v zero = 0
linked_in ext v (suc n) = linked_in ext v n + one_if_linked (ext (v + n))
