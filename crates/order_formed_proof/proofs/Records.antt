-- The records of a tree that is flattened are well formed: its own, and the jumps and labels that flattening adds.
use Prim.Native.Nat.{ℕ, ◌+◌, ◌^◌, ◌<◌}
use native.Mathlib.Omega.{arith}
use Rattle.records.specs.ReadBack.{Each, WellFormedCode}
use Rattle.records.proofs.Each.{each_append}
use Rattle.trees.specs.Tree.{Tree, nop, leaf, seq, skip_if_zero, if_zero, labels, flat_at}
use Rattle.code.specs.declared.emitters.Condition.TheVariants.{Equal}
use Rattle.order_formed_proof.proofs.Formed.{Formed, none, one, ◌then◌, skipped, chosen}
use Rattle.order_formed_proof.proofs.Codes.{drawn, lab, jmpl, jump_if_lem}

-- where n labels above the counter c are drawn already, and the last that the tree draws is below 2^31
pub formed_records : (t : Tree) (c n : ℕ) → Formed t → c + (n + labels t) < 2 ^ 31 → Each WellFormedCode (flat_at t c n)
formed_records nop c n none h = tt
formed_records (leaf x p) c n (one w) h = (w, tt)
formed_records (seq t u) c n (f then g) h =
    each_append WellFormedCode (flat_at t c n) (flat_at u c (n + labels t)) (formed_records t c n f (omega arith)) (formed_records u c (n + labels t) g (omega arith))
formed_records (skip_if_zero x p t) c n (skipped w f) h = (
  w,
  (
    jump_if_lem (drawn (omega arith) (omega arith)) Equal,
    each_append WellFormedCode (flat_at t c n) _ (formed_records t c n f (omega arith)) (lab (drawn (omega arith) (omega arith)), tt),
  ),
)
formed_records (if_zero x p t e) c n (chosen w f g) h = (
  w,
  (
    jump_if_lem (drawn (omega arith) (omega arith)) Equal,
    each_append WellFormedCode (flat_at e c (n + labels t)) _ (formed_records e c (n + labels t) g (omega arith)) (
      jmpl (drawn (omega arith) (omega arith)),
      (
        lab (drawn (omega arith) (omega arith)),
        each_append WellFormedCode (flat_at t c n) _ (formed_records t c n f (omega arith)) (lab (drawn (omega arith) (omega arith)), tt),
      ),
    ),
  ),
)
