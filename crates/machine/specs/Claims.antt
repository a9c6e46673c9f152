-- A claim beside the contracts: what a contract says of views determines every word.
use Rattle.std.specs.Prelude.{ℕ, ◌≡◌, List, length}
use Rattle.machine.specs.declared.state.State.{State}
use Rattle.machine.specs.State.{see}

-- states with equally many registers and stack words, seen alike beside two heaps, are equal, and so are the heaps
abbrev pub ViewsDetermine : Type 0
ViewsDetermine =
    (s t : State) (H G : List ℕ) → length s.registers ≡ length t.registers → length s.stack ≡ length t.stack → see s H ≡ see t G
    → (s ≡ t) × (H ≡ G)
