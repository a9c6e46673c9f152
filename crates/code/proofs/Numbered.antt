-- One record, and one whose code's number is computed from the operation's: an add, a sub or a mul.
use Prim.Native.Nat.{ℕ, ◌+◌}
use mathlib.Core.Path.{◌≡◌, refl}
use mathlib.Core.Bool.{Bool, true, false, cond}
use mathlib.Core.List.{List, [], ◌∷◌}
use lib.Dec.{eqb}
use Rattle.records.specs.declared.code.Code.{Code}
use Rattle.records.specs.declared.code.Code.TheVariants.{ADD, ADDRM, ADDMR, SUB, SUBRM, SUBMR, IMUL, IMULRM, IMULMR}
use Rattle.records.specs.declared.code.Fields.{Fields}
use Rattle.records.specs.Codes.{fields, fields_of}
use Rattle.trees.specs.Tree.{straight, leaf}
use Rattle.emit.specs.declared.cursor.Cursor.{Cursor}
use Rattle.emit.specs.Emitted.{Emitted, Emits}
use Rattle.emit.proofs.Laws.{grown}
use Rattle.layout.specs.Config.{STACK}
use Rattle.code.specs.Code.{by_number, register_register, register_spill, spill_register}

-- the three codes have the same fields but for the number, which the code computed
numbered : {o o' : List ℕ} {p q : Cursor} (n : ℕ) {k : ℕ} (F : ℕ → Fields) (x y z : Code) (sx : straight x ≡ true) (sy : straight y ≡ true) (sz : straight z ≡ true)
    → k ≡ by_number n 1 6 10 → F 1 ≡ fields_of x → F 6 ≡ fields_of y → F 10 ≡ fields_of z
    → Emitted o p o' q (F k ∷ []) 0
    → Emits o p o' q (by_number n (leaf x sx) (leaf y sy) (leaf z sz))
numbered {o} {o'} {p} {q} n F x y z sx sy sz e ex ey ez d = by (eqb n 0) (eqb n 1) (rw e at d)
  where
    by : (a b : Bool) → Emitted o p o' q (F (cond a 1 (cond b 6 10)) ∷ []) 0 → Emits o p o' q (cond a (leaf x sx) (cond b (leaf y sy) (leaf z sz)))
    by true b d = grown _ (rw ex at d) refl refl
    by false true d = grown _ (rw ey at d) refl refl
    by false false d = grown _ (rw ez at d) refl refl

module _ {o o' : List ℕ} {p q : Cursor} (n : ℕ) {k : ℕ} (e : k ≡ by_number n 1 6 10) where
  pub register_register_lem : (r a : ℕ) → Emitted o p o' q (fields k r a 0 0 0 ∷ []) 0 → Emits o p o' q (register_register n r a)
  register_register_lem r a = numbered n (λ i. fields i r a 0 0 0) (ADD r a) (SUB r a) (IMUL r a) refl refl refl e refl refl refl

  pub register_spill_lem : (r f : ℕ) → Emitted o p o' q (fields (k + 1) r STACK 0 f 0 ∷ []) 0 → Emits o p o' q (register_spill n r f)
  register_spill_lem r f = numbered n (λ i. fields (i + 1) r STACK 0 f 0) (ADDRM r STACK f) (SUBRM r STACK f) (IMULRM r STACK f) refl refl refl e refl refl refl

  pub spill_register_lem : (f r : ℕ) → Emitted o p o' q (fields (k + 2) STACK r 0 f 0 ∷ []) 0 → Emits o p o' q (spill_register n f r)
  spill_register_lem f r = numbered n (λ i. fields (i + 2) STACK r 0 f 0) (ADDMR STACK f r) (SUBMR STACK f r) (IMULMR STACK f r) refl refl refl e refl refl refl
