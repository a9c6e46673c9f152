-- The table is the clauses: what the code performs by numbers is `step` at each of the 44 codes, by computation.
use Prim.Native.Nat.{ℕ, zero, suc, ◌-◌, ◌/◌, ◌%◌, ◌≤◌, ◌<◌}
use mathlib.Core.Path.{◌≡◌, refl, sym, subst}
use mathlib.Core.Bool.{Bool, true, false}
use mathlib.Core.List.{List}
use native.Mathlib.Nat.{not-suc-le-zero}
use native.Mathlib.Omega.{arith}
use lib.Dec.{eqb}
use lib.ListN.{get_or}
use borrow.Author.Tests.{eqb-true, eqb-false}
use Rattle.records.specs.declared.code.Code.TheVariants.{EXTERN}
use Rattle.records.specs.declared.code.Fields.{Fields}
use Rattle.records.specs.Codes.{readers, code_of}
use Rattle.records.specs.Instructions.{fields_ok}
use Rattle.records.proofs.CodesRead.{ok_code}
use Rattle.machine_step.specs.declared.instruction.Moved.{Moved}
use Rattle.machine_step.specs.declared.instruction.Pair.{Pair}
use Rattle.machine_step.specs.Step.{Config, Outcome, step}
use Rattle.machine_step.specs.Forms.{result_of, holds_of, Acts}
use Rattle.machine_step.proofs.Instructions.{goes_as}
use Rattle.machine.specs.Tables.{tabled, performed}

-- the record f, where its code is k + 1
abbrev by_table : (ℕ → ℕ) → ℕ → Fields → Config → Outcome
by_table words k f c = performed words (get_or tabled k 0 / 256 % 16) (get_or tabled k 0 / 16 % 16) (get_or tabled k 0 % 16) f c

abbrev by_name : (ℕ → ℕ) → ℕ → Fields → Config → Outcome
by_name words k f c = step words (get_or readers k (λ (g : Fields). EXTERN g.label) f) c

abbrev Same : ℕ → Type 0
Same k = (words : ℕ → ℕ) (f : Fields) (c : Config) → by_table words k f c ≡ by_name words k f c

-- a claim at each number below k
abbrev pub Each : (ℕ → Type 0) → ℕ → Type 0
Each P zero = Unit {0}
Each P (suc k) = Each P k × P k

pub each : (P : ℕ → Type 0) (k : ℕ) → Each P k → (i : ℕ) → i < k → P i
each P zero e i h = absurd (not-suc-le-zero h)
each P (suc k) e i h = by (eqb i k) refl (λ l. each P k e.0 i l)
  where
    by : (b : Bool) → eqb i k ≡ b → (i < k → P i) → P i
    by true q r = subst P (sym (eqb-true i k q)) e.1
    by false q r = let n = eqb-false i k q in r (omega arith)

same_all : Each Same 44
unfolding performed step readers result_of holds_of
same_all = ((((((((((((((((((((((((((((((((((((((((((((tt, (λ w f c. refl)), (λ w f c. refl)), (λ w f c. refl)), (λ w f c. refl)), (λ w f c. refl)), (λ w f c. refl)), (λ w f c. refl)), (λ w f c. refl)), (λ w f c. refl)), (λ w f c. refl)), (λ w f c. refl)), (λ w f c. refl)), (λ w f c. refl)), (λ w f c. refl)), (λ w f c. refl)), (λ w f c. refl)), (λ w f c. refl)), (λ w f c. refl)), (λ w f c. refl)), (λ w f c. refl)), (λ w f c. refl)), (λ w f c. refl)), (λ w f c. refl)), (λ w f c. refl)), (λ w f c. refl)), (λ w f c. refl)), (λ w f c. refl)), (λ w f c. refl)), (λ w f c. refl)), (λ w f c. refl)), (λ w f c. refl)), (λ w f c. refl)), (λ w f c. refl)), (λ w f c. refl)), (λ w f c. refl)), (λ w f c. refl)), (λ w f c. refl)), (λ w f c. refl)), (λ w f c. refl)), (λ w f c. refl)), (λ w f c. refl)), (λ w f c. refl)), (λ w f c. refl)), (λ w f c. refl))

pub table_is_step : (words : ℕ → ℕ) (f : Fields) (c : Config) → 1 ≤ f.code → f.code ≤ 44
    → performed words (get_or tabled (f.code - 1) 0 / 256 % 16) (get_or tabled (f.code - 1) 0 / 16 % 16) (get_or tabled (f.code - 1) 0 % 16) f c ≡ step words (code_of f) c
unfolding code_of
table_is_step words f c l h = each Same 44 same_all (f.code - 1) (omega arith) words f c

-- what a record does by the lent table is its step
pub acts : (words : ℕ → ℕ) (K : List ℕ) (f : Fields) {R S H R' S' H' : List ℕ} {p : Pair} {m : Moved} → K ≡ tabled → fields_ok f ≡ true
    → Acts R S H R' S' H' p m (performed words (get_or K (f.code - 1) 0 / 256 % 16) (get_or K (f.code - 1) 0 / 16 % 16) (get_or K (f.code - 1) 0 % 16) f)
    → Acts R S H R' S' H' p m (step words (code_of f))
acts words K f e o g = let k = ok_code f o in goes_as (λ c. sym (rw e (table_is_step words f c k.0 k.1))) g
