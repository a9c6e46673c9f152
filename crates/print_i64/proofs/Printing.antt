-- The records with the registers of the set are print_i64's; and its answer.
use Prim.Native.Nat.{ℕ, ◌*◌, ◌<◌}
use mathlib.Core.Path.{◌≡◌, ap, ◌∙◌}
use mathlib.Core.Bool.{Bool}
use mathlib.Core.List.{List}
use lib.Count.{ones}
use lib.ListN.{length}
use Rattle.records.specs.declared.code.Code.{Code}
use Rattle.trees.specs.Tree.{Tree, labels, size}
use Rattle.emit.specs.declared.cursor.Cursor.{Cursor}
use Rattle.emit.specs.Answers.{granted, Answers, Answer}
use Rattle.emit.specs.Emitted.{Emits}
use Rattle.layout.specs.declared.config.Shape.{Shape}
use Rattle.print_i64.specs.Registers.{registers_to_save, set_of, members, first_backup, backups_used}
use Rattle.print_i64.specs.Print.{print_saving, print_i64}
use Rattle.print_i64.proofs.Sets.{ones_members, members_saved}

-- the set is that of the registers to save, and its ones say how many go to free registers
pub printed : {o o' : List ℕ} {p q : Cursor} (g : Shape) (newline : Bool) (w : ℕ) (ext : ℕ → Bool) (n : ℕ) {set first used : ℕ} → set < 65536
    → set ≡ set_of (registers_to_save ext n) → first ≡ first_backup n → used ≡ backups_used n (ones set)
    → Emits o p o' q (print_saving g newline w first used (members 16 set))
    → Emits o p o' q (print_i64 g newline w ext n)
printed g newline w ext n {set} h es ef eu d =
    let m : members 16 set ≡ registers_to_save ext n = ap (members 16) es ∙ members_saved ext n in
    let k = eu ∙ ap (backups_used n) (ones_members set h ∙ ap length m) in
    rw (m, ef, k) at d

-- the answer for a tree that draws no labels
pub unlabelled : {o o' : List ℕ} {r : Answer} {cs : List Code} (t : Tree) (room : ℕ) → labels t ≡ 0
    → Answers o o' r (granted 0 room (24 * size t) (labels t)) cs
    → Answers o o' r (granted 0 room (24 * size t) 0) cs
unlabelled t room e d = rw e at d
