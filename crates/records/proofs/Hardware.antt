-- The table of hardware numbers follows the registers' names, by one computed test over its entries.
use Rattle.std.specs.Prelude.{Some, None}
use Prim.Native.Nat.{ℕ, ◌<◌, ◌≤◌}
use mathlib.Core.Path.{◌≡◌, ap}
use mathlib.Core.Bool.{Bool}
use mathlib.Core.List.{List, [], ◌∷◌}
use lib.Dec.{eqb, eqb→eq}
use lib.ListN.{get_or}
use borrow.Author.Tests.{lt-ltb, le-ltb}
use Rattle.records.specs.Registers.{rsp, register_names, encoded, hardware_of}
use Rattle.records.proofs.Table.{at}

abbrev hardware : List ℕ
hardware = 4 ∷ 1 ∷ 3 ∷ 5 ∷ 0 ∷ 2 ∷ 6 ∷ 7 ∷ 8 ∷ 9 ∷ 10 ∷ 11 ∷ 12 ∷ 13 ∷ 14 ∷ 15 ∷ []

right : ℕ → ℕ → Bool
right r n = eqb n (encoded (get_or register_names r rsp))

pub hardware_listed : (r : ℕ) → r < 16 → Some (get_or hardware r 0) ≡ hardware_of r
unfolding right hardware_of
hardware_listed r h =
    rw (lt-ltb r 16 h) (ap Some (eqb→eq (get_or hardware r 0) (encoded (get_or register_names r rsp)) (at right hardware tt r h)))

pub hardware_none : (r : ℕ) → 16 ≤ r → None ≡ hardware_of r
unfolding hardware_of
hardware_none r h = rw (le-ltb r 16 h)
