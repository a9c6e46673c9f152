-- Registers moved back and popped: each of the list holds its word of o again, and a register that holds its word of o goes on to hold it.
use Prim.Native.Nat.{ℕ, suc, ◌+◌, ◌≤◌, ◌<◌}
use mathlib.Core.Path.{◌≡◌, refl, ap, ◌∙◌}
use mathlib.Core.Logic.{◌≢◌}
use mathlib.Core.List.{List, [], ◌∷◌}
use native.Mathlib.Decide.{ℕ_discrete}
use native.Mathlib.Omega.{arith}
use lib.ListN.{length}
use Rattle.records.specs.ReadBack.{Each}
use Rattle.machine_step.specs.View.{View, upd}
use Rattle.machine_step.specs.Step.{Call, Config}
use Rattle.print_i64.specs.Print.{moves_back, pops}
use Rattle.layout_proof.proofs.Operands.{with_register}
use Rattle.layout_proof.proofs.HeldLemmas.{upd_same, upd_other}
use Rattle.layout_proof.proofs.RecordLemmas.{register_MOV}
use Rattle.layout_proof.proofs.Runs.{Does, one, go, so, then}
use Rattle.print_i64_proof.proofs.Each.{Low, each_both}
use Rattle.print_i64_proof.proofs.Stack.{stack_address, pop_does}
use Rattle.print_i64_proof.proofs.Saved.{Room, Beside, Backed, Stacked}

module _ (o : View) where
  right_put : (registers : ℕ → ℕ) (r w j : ℕ) → w ≡ o.reg r → registers j ≡ o.reg j → upd registers r w j ≡ o.reg j
  right_put registers r w j e k = by (ℕ_discrete j r)
    where
      by : Dec (j ≡ r) → upd registers r w j ≡ o.reg j
      by (yes q) = rw q (upd_same registers r w ∙ e)
      by (no q) = upd_other registers r w j q ∙ k

  -- where the registers from f on stay
  pub backed_same : (f : ℕ) (rs : List ℕ) (registers registers' : ℕ → ℕ) → ((j : ℕ) → f ≤ j → registers' j ≡ registers j) → Backed o f rs registers → Backed o f rs registers'
  backed_same f [] registers registers' e b = tt
  backed_same f (r ∷ rs) registers registers' e b = (e f (omega arith) ∙ b.0, backed_same (f + 1) rs registers registers' (λ j h. e j (omega arith)) b.1)

  pub record MovedBack (B : ℕ) (z : List Call) (f : ℕ) (rs : List ℕ) (registers stack : ℕ → ℕ) (e : Config) : Type 0 where
    pub restored : Each (λ j. e.state.reg j ≡ o.reg j) rs
    pub right : (j : ℕ) → j < f → registers j ≡ o.reg j → e.state.reg j ≡ o.reg j
    pub reserved : (j : ℕ) → j < 4 → e.state.reg j ≡ registers j
    pub stack_kept : e.state.stk ≡ stack
    pub beside : Beside B o z e

  pub record Popped (B : ℕ) (z : List Call) (rs : List ℕ) (n : ℕ) (registers stack : ℕ → ℕ) (e : Config) : Type 0 where
    pub stack_at : e.state.reg 0 ≡ stack_address n
    pub restored : Each (λ j. e.state.reg j ≡ o.reg j) rs
    pub right : (j : ℕ) → j ≢ 0 → registers j ≡ o.reg j → e.state.reg j ≡ o.reg j
    pub stack_kept : e.state.stk ≡ stack
    pub beside : Beside B o z e

module _ (words : ℕ → ℕ) (B : ℕ) (o : View) (z : List Call) (fits : Room B o) where
  pub back_does : (f : ℕ) (rs : List ℕ) (d : Config) → 12 ≤ f → Each Low rs → Backed o f rs d.state.reg → Beside B o z d
      → Does words (moves_back f rs) d (MovedBack o B z f rs d.state.reg d.state.stk)
  back_does f [] d h l k b = one refl (record { restored = tt; right = λ j a e. e; reserved = λ j a. refl; stack_kept = refl; beside = b })
  back_does f (r ∷ rs) d h l k b =
      let w : ℕ = d.state.reg f in
      go (register_MOV words d r f)
      (so (back_does (f + 1) rs (with_register d r w) (omega arith) l.1 (backed_same o (f + 1) rs d.state.reg (upd d.state.reg r w) (λ j a. upd_other d.state.reg r w j (omega arith)) k.1) b)
      (λ e m. record {
        restored = (m.right r (omega arith) (upd_same d.state.reg r w ∙ k.0), m.restored);
        right = λ j a q. m.right j (omega arith) (right_put o d.state.reg r w j k.0 q);
        reserved = λ j a. m.reserved j a ∙ upd_other d.state.reg r w j (omega arith);
        stack_kept = m.stack_kept;
        beside = m.beside;
      }))

  pub pops_do : (rs : List ℕ) (n : ℕ) (d : Config) → B ≤ n → n + length rs ≤ B + 8 → Each Low rs → d.state.reg 0 ≡ stack_address (n + length rs) → Stacked o rs n d.state.stk → Beside B o z d
      → Does words (pops rs) d (Popped o B z rs n d.state.reg d.state.stk)
  pops_do [] n d a h l s k b =
      let e : n + 0 ≡ n = omega arith in
      one refl (record { stack_at = s ∙ ap stack_address e; restored = tt; right = λ j a q. q; stack_kept = refl; beside = b })
  pops_do (r ∷ rs) n d a h l s k b =
      let u : n + length (r ∷ rs) ≡ suc n + length rs = omega arith in
      then (pops_do rs (suc n) d (omega arith) (omega arith) l.1 (s ∙ ap stack_address u) k.1 b)
      (λ e p.
      let w : ℕ = e.state.stk (suc n) in
      let held : w ≡ o.reg r = ap (λ (g : ℕ → ℕ). g (suc n)) p.stack_kept ∙ k.0 in
      let put : (j : ℕ) → j ≢ 0 → e.state.reg j ≡ o.reg j → upd (upd e.state.reg 0 (stack_address n)) r w j ≡ o.reg j
      = λ j a q. right_put o (upd e.state.reg 0 (stack_address n)) r w j held (upd_other e.state.reg 0 (stack_address n) j a ∙ q) in
      one (pop_does words e n r (omega (arith, p.beside.depth_kept, fits.room)) (omega (arith, fits.room, fits.small)) p.stack_at) (record {
        stack_at = upd_other (upd e.state.reg 0 (stack_address n)) r w 0 (omega arith) ∙ upd_same e.state.reg 0 (stack_address n);
        restored = (upd_same (upd e.state.reg 0 (stack_address n)) r w ∙ held, each_both Low (λ j. e.state.reg j ≡ o.reg j) (λ j. upd (upd e.state.reg 0 (stack_address n)) r w j ≡ o.reg j) rs (λ j a q. put j (omega arith) q) l.1 p.restored);
        right = λ j a q. put j a (p.right j a q);
        stack_kept = p.stack_kept;
        beside = p.beside;
      }))
