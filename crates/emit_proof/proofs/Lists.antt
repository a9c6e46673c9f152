-- Lists of at most 65,536 well-formed records are read back; the records of trees that draw labels below 2^31 are such, and so are short lists put together from them.
use Prim.Native.Nat.{ℕ, ◌+◌, ◌≤◌, ◌<◌}
use mathlib.Core.Bool.{cond}
use mathlib.Core.List.{List, [], ◌∷◌, ◌++◌}
use native.Mathlib.Decide.{dec_lt}
use native.Mathlib.Omega.{arith}
use lib.Dec.{ltb}
use lib.ListN.{length, length-append}
use borrow.Author.Tests.{lt-ltb, le-ltb}
use Rattle.records.specs.declared.code.Code.{Code}
use Rattle.records.specs.ReadBack.{Each, WellFormedCode}
use Rattle.records.proofs.Each.{each_append}
use Rattle.records.proofs.ReadBack.{records_read_back}
use Rattle.records.specs.Names.{last_label}
use Rattle.trees.specs.Tree.{Tree, labels, size, flat}
use Rattle.trees.proofs.Flat.{length_flat}
use Rattle.code.proofs.Sizes.{Plain}
use Rattle.order_formed_proof.proofs.Formed.{Formed}
use Rattle.order_formed_proof.proofs.Records.{formed_records}
use Rattle.order_formed_proof.proofs.Bytes.{codes_back, ran_list}
use Rattle.emit_proof.specs.Claims.{Readable}

pub readable : (cs : List Code) → Each WellFormedCode cs → length cs ≤ 65536 → Readable cs
readable cs w h = record {
  formed = w;
  few = h;
  checks = records_read_back.codes_accepted cs w 65536 (omega arith);
  reads = λ rest k l. records_read_back.codes_read cs w rest k l;
  all = codes_back cs w;
  runs = λ block words limit v e. ran_list block words cs limit v w h e;
}

tree_each : (t : Tree) (counter : ℕ) → Formed t → counter + labels t ≤ last_label → Each WellFormedCode (flat t counter)
tree_each t counter f l = formed_records t counter 0 f (omega arith)

pub tree_readable : (t : Tree) (counter : ℕ) → Formed t → counter + labels t ≤ last_label → size t ≤ 65536 → Readable (flat t counter)
tree_readable t counter f l h = readable (flat t counter) (tree_each t counter f l) (omega (arith, length_flat t counter 0))

-- ---- short lists

-- at most ten well-formed records
pub record Short (cs : List Code) : Type 0 where
  pub each : Each WellFormedCode cs
  pub most : length cs ≤ 10

-- of a tree that draws no label
pub short_tree : (t : Tree) {m : ℕ} → Formed t → Plain t m → m ≤ 10 → Short (flat t 0)
short_tree t f p h = record { each = tree_each t 0 f (omega (arith, p.none)); most = omega (arith, length_flat t 0 0, p.most) }

-- and one more behind
pub short_then : (t : Tree) {m : ℕ} (c : Code) → Formed t → Plain t m → m ≤ 9 → WellFormedCode c → Short (flat t 0 ++ (c ∷ []))
short_then t c f p h w =
    record {
      each = each_append WellFormedCode (flat t 0) (c ∷ []) (tree_each t 0 f (omega (arith, p.none))) (w, tt);
      most = omega (arith, length-append (flat t 0) (c ∷ []), length_flat t 0 0, p.most);
    }

-- a choice of records by whether an operand is a register or a spill
pub on_operand : (w : ℕ) {xs ys : List Code} → (w < 16 → Short xs) → (16 ≤ w → Short ys) → Short (cond (ltb w 16) xs ys)
on_operand w {xs} {ys} f h = by (dec_lt w 16)
  where
    by : Dec (w < 16) → Short (cond (ltb w 16) xs ys)
    by (yes l) = rw (lt-ltb w 16 l) (f l)
    by (no l) = let q : 16 ≤ w = omega arith in rw (le-ltb w 16 q) (h q)
