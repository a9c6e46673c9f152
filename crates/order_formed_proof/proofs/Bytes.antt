-- The machine's run over the bytes of a tree's records is its run over the instructions.
use Prim.Native.Nat.{ℕ, ◌+◌, ◌≤◌}
use mathlib.Core.Path.{◌≡◌, refl}
use mathlib.Core.Bool.{true}
use mathlib.Core.List.{List, [], ◌∷◌}
use native.Mathlib.Omega.{arith}
use lib.ListN.{length}
use lib.Seq.{drop_at}
use Rattle.records.specs.declared.code.Code.{Code}
use Rattle.records.specs.ReadBack.{Each, WellFormedCode, joined, code_bytes}
use Rattle.records.proofs.CodesBack.{code_laws}
use Rattle.records.proofs.ReadBack.{records_read_back}
use Rattle.records.specs.Names.{last_label}
use Rattle.trees.specs.Tree.{Tree, labels, size, flat}
use Rattle.trees.proofs.Flat.{length_flat}
use Rattle.machine_step.specs.View.{View}
use Rattle.machine_step.specs.Memory.{heap_ok}
use Rattle.machine.specs.Run.{codes_of, started, ran}
use Rattle.order_formed_proof.proofs.Formed.{Formed}
use Rattle.order_formed_proof.proofs.Records.{formed_records}

-- the instructions of the bytes of a list are the list
pub codes_back : (xs : List Code) → Each WellFormedCode xs → codes_of (length xs) (joined code_bytes xs) ≡ xs
codes_back [] w = refl
codes_back (x ∷ xs) w =
    rw (code_laws.same x (joined code_bytes xs) w.0, drop_at (code_bytes x) (joined code_bytes xs) 24 (code_laws.long x), codes_back xs w.1)

-- a list of at most 65,536 well-formed instructions
pub ran_list : (block : ℕ) (words : ℕ → ℕ) (xs : List Code) (limit : ℕ) (v : View) → Each WellFormedCode xs → length xs ≤ 65536 → heap_ok block v.size ≡ true
    → ran block words (joined code_bytes xs) limit v ≡ started words xs limit v
unfolding ran
ran_list block words xs limit v w h e = rw (e, records_read_back.codes_accepted xs w 65536 (omega arith), codes_back xs w)

-- a tree's records
pub ran_started : (block : ℕ) (words : ℕ → ℕ) (t : Tree) (c limit : ℕ) (v : View) → Formed t → c + labels t ≤ last_label → size t ≤ 65536 → heap_ok block v.size ≡ true
    → ran block words (joined code_bytes (flat t c)) limit v ≡ started words (flat t c) limit v
ran_started block words t c limit v f h m e =
    ran_list block words (flat t c) limit v (formed_records t c 0 f (omega arith)) (omega (arith, length_flat t c 0)) e
