-- That a tree runs from a configuration and leaves something true of the one after it, and how such runs are put together.
use mathlib.Core.Path.{◌≡◌}
use mathlib.Core.Bool.{true, false}
use Prim.Native.Nat.{ℕ}
use lib.Dec.{eqb}
use Rattle.records.specs.declared.code.Code.{Code}
use Rattle.trees.specs.Tree.{Tree, seq, skip_if_zero, if_zero, straight}
use Rattle.machine_step.specs.Step.{Config, dropped, next, step}
use Rattle.trees_proof.specs.Evaluation.{done, evaluate}
use Rattle.layout_proof.proofs.Operands.{with_pair}

pub record Does (words : ℕ → ℕ) (t : Tree) (c : Config) (Q : Config → Type 0) : Type 0 where
  pub to : Config
  pub run : evaluate words t c ≡ done to
  pub post : Q to

module _ {words : ℕ → ℕ} where
  pub one : {t : Tree} {c d : Config} {Q : Config → Type 0} → evaluate words t c ≡ done d → Q d → Does words t c Q
  one {d = d} e q = record { to = d; run = e; post = q }

  -- a run, and then the rest
  pub then : {t u : Tree} {c : Config} {Q R : Config → Type 0} → Does words t c Q → ((d : Config) → Q d → Does words u d R) → Does words (seq t u) c R
  then r k = let s = k r.to r.post in record { to = s.to; run = rw r.run s.run; post = s.post }

  -- records that an equation tells, and then the rest
  pub go : {t u : Tree} {c d : Config} {R : Config → Type 0} → evaluate words t c ≡ done d → Does words u d R → Does words (seq t u) c R
  go e r = record { to = r.to; run = rw e r.run; post = r.post }

  pub weaken : {t : Tree} {c : Config} {Q R : Config → Type 0} → ((d : Config) → Q d → R d) → Does words t c Q → Does words t c R
  weaken f r = record { to = r.to; run = r.run; post = f r.to r.post }

  pub so : {t : Tree} {c : Config} {Q R : Config → Type 0} → Does words t c Q → ((d : Config) → Q d → R d) → Does words t c R
  so r f = weaken f r

  -- after a compare of x and y
  module _ {code : Code} {p : straight code ≡ true} {c : Config} {x y : ℕ} {Q : Config → Type 0} (w : step words code c ≡ next (with_pair c x y)) where
    pub skip_yes : {t : Tree} → eqb x y ≡ true → Q (dropped c) → Does words (skip_if_zero code p t) c Q
    skip_yes z q = record { to = dropped c; run = rw (w, z); post = q }

    pub skip_no : {t : Tree} → eqb x y ≡ false → Does words t (dropped c) (λ d. Q (dropped d)) → Does words (skip_if_zero code p t) c Q
    skip_no z r = record { to = dropped r.to; run = rw (w, z, r.run); post = r.post }

    pub if_yes : {t e : Tree} → eqb x y ≡ true → Does words t (dropped c) (λ d. Q (dropped d)) → Does words (if_zero code p t e) c Q
    if_yes z r = record { to = dropped r.to; run = rw (w, z, r.run); post = r.post }

    pub if_no : {t e : Tree} → eqb x y ≡ false → Does words e (dropped c) (λ d. Q (dropped d)) → Does words (if_zero code p t e) c Q
    if_no z r = record { to = dropped r.to; run = rw (w, z, r.run); post = r.post }
