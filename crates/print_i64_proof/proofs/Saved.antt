-- Registers moved to free ones and pushed. All is told against the state o before: what holds a word of o, and that the rest stays as in o.
use Prim.Native.Nat.{ℕ, suc, ◌+◌, ◌≤◌, ◌<◌}
use mathlib.Core.Path.{◌≡◌, refl, ap, ◌∙◌}
use mathlib.Core.Logic.{◌≢◌}
use mathlib.Core.List.{List, [], ◌∷◌}
use native.Mathlib.Omega.{arith}
use lib.ListN.{length}
use Rattle.records.specs.ReadBack.{Each}
use Rattle.machine_step.specs.View.{View, upd, put_reg, put_stk}
use Rattle.machine_step.specs.Step.{Call, Config, changed}
use Rattle.print_i64.specs.Print.{moves, pushes}
use Rattle.layout_proof.proofs.Operands.{with_register}
use Rattle.layout_proof.proofs.HeldLemmas.{upd_same, upd_other}
use Rattle.layout_proof.proofs.RecordLemmas.{register_MOV}
use Rattle.layout_proof.proofs.Runs.{Does, one, go, so}
use Rattle.print_i64_proof.proofs.Each.{Low}
use Rattle.print_i64_proof.proofs.Stack.{stack_address, push_does}

-- where STACK is at word B before the call: eight words fit below it
pub record Room (B : ℕ) (o : View) : Type 0 where
  pub room : B + 8 < o.depth
  pub small : o.depth < 1024

-- the stack's words to B and the heap are those of o, and the calls are z
pub record BesideAt (B : ℕ) (o : View) (z : List Call) (stack heap : ℕ → ℕ) (depth size : ℕ) (calls : List Call) : Type 0 where
  pub spills : (i : ℕ) → i ≤ B → stack i ≡ o.stk i
  pub depth_kept : depth ≡ o.depth
  pub heap_kept : heap ≡ o.mem
  pub size_kept : size ≡ o.size
  pub calls_are : calls ≡ z

abbrev pub Beside : ℕ → View → List Call → Config → Type 0
Beside B o z d = BesideAt B o z d.state.stk d.state.mem d.state.depth d.state.size d.calls

-- a word below the spills changed
pub beside_put : {B : ℕ} {o : View} {z : List Call} {stack heap : ℕ → ℕ} {depth size : ℕ} {calls : List Call} (i w : ℕ) → B < i
    → BesideAt B o z stack heap depth size calls → BesideAt B o z (upd stack i w) heap depth size calls
beside_put {stack = stack} i w h b = record {
  spills = λ j k. upd_other stack i w j (omega arith) ∙ b.spills j k;
  heap_kept = b.heap_kept;
  depth_kept = b.depth_kept;
  size_kept = b.size_kept;
  calls_are = b.calls_are;
}

module _ (o : View) where
  -- the registers from f on hold what those of rs held
  abbrev pub Backed : ℕ → List ℕ → (ℕ → ℕ) → Type 0
  Backed f [] registers = Unit {0}
  Backed f (r ∷ rs) registers = (registers f ≡ o.reg r) × Backed (f + 1) rs registers

  -- the stack's words after n hold it
  abbrev pub Stacked : List ℕ → ℕ → (ℕ → ℕ) → Type 0
  Stacked [] n stack = Unit {0}
  Stacked (r ∷ rs) n stack = (stack (suc n) ≡ o.reg r) × Stacked rs (suc n) stack

  -- the registers that a call may change are as in o
  abbrev pub LowRight : (ℕ → ℕ) → Type 0
  LowRight registers = (j : ℕ) → Low j → registers j ≡ o.reg j

  pub record Moved (B : ℕ) (z : List Call) (f : ℕ) (rs : List ℕ) (registers : ℕ → ℕ) (e : Config) : Type 0 where
    pub below : (j : ℕ) → j < f → e.state.reg j ≡ registers j
    pub backed : Backed f rs e.state.reg
    pub beside : Beside B o z e

  pub record Pushed (B : ℕ) (z : List Call) (rs : List ℕ) (n : ℕ) (registers stack : ℕ → ℕ) (e : Config) : Type 0 where
    pub stack_at : e.state.reg 0 ≡ stack_address (n + length rs)
    pub others : (j : ℕ) → j ≢ 0 → e.state.reg j ≡ registers j
    pub above : (i : ℕ) → i ≤ n → e.state.stk i ≡ stack i
    pub stacked : Stacked rs n e.state.stk
    pub beside : Beside B o z e

module _ (words : ℕ → ℕ) (B : ℕ) (o : View) (z : List Call) (fits : Room B o) where
  pub moves_do : (f : ℕ) (rs : List ℕ) (d : Config) → 12 ≤ f → Each Low rs → LowRight o d.state.reg → Beside B o z d
      → Does words (moves f rs) d (Moved o B z f rs d.state.reg)
  moves_do f [] d h l right b = one refl (record { below = λ j k. refl; backed = tt; beside = b })
  moves_do f (r ∷ rs) d h l right b =
      let w : ℕ = d.state.reg r in
      go (register_MOV words d f r)
      (so (moves_do (f + 1) rs (with_register d f w) (omega arith) l.1 (λ j k. upd_other d.state.reg f w j (omega arith) ∙ right j k) b)
      (λ e m. record {
        below = λ j k. m.below j (omega arith) ∙ upd_other d.state.reg f w j (omega arith);
        backed = (m.below f (omega arith) ∙ upd_same d.state.reg f w ∙ right r l.0, m.backed);
        beside = m.beside;
      }))

  pub pushes_do : (rs : List ℕ) (n : ℕ) (d : Config) → B ≤ n → n + length rs ≤ B + 8 → Each Low rs → LowRight o d.state.reg → d.state.reg 0 ≡ stack_address n → Beside B o z d
      → Does words (pushes rs) d (Pushed o B z rs n d.state.reg d.state.stk)
  pushes_do [] n d a h l right s b =
      let e : n ≡ n + 0 = omega arith in
      one refl (record { stack_at = s ∙ ap stack_address e; others = λ j k. refl; above = λ i k. refl; stacked = tt; beside = b })
  pushes_do (r ∷ rs) n d a h l right s b =
      let w : ℕ = d.state.reg r in
      let u : suc n + length rs ≡ n + length (r ∷ rs) = omega arith in
      go (push_does words d n r (omega (arith, b.depth_kept, fits.room)) (omega (arith, fits.room, fits.small)) s)
      (so (pushes_do rs (suc n) (changed d (put_stk (put_reg d.state 0 (stack_address (suc n))) (suc n) w)) (omega arith) (omega arith) l.1
      (λ j k. upd_other d.state.reg 0 (stack_address (suc n)) j (omega arith) ∙ right j k) (upd_same d.state.reg 0 (stack_address (suc n))) (beside_put (suc n) w (omega arith) b))
      (λ e p. record {
        stack_at = p.stack_at ∙ ap stack_address u;
        others = λ j k. p.others j k ∙ upd_other d.state.reg 0 (stack_address (suc n)) j k;
        above = λ i k. p.above i (omega arith) ∙ upd_other d.state.stk (suc n) w i (omega arith);
        stacked = (p.above (suc n) (omega arith) ∙ upd_same d.state.stk (suc n) w ∙ right r l.0, p.stacked);
        beside = p.beside;
      }))
