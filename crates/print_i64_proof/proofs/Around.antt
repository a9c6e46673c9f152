-- The call with registers saved around it: the first of a list in free registers, the others on the stack.
use Prim.Native.Nat.{ℕ, ◌+◌, ◌-◌, ◌%◌, ◌≤◌, ◌<◌}
use mathlib.Core.Path.{◌≡◌, refl, sym, ap, ◌∙◌, subst}
use mathlib.Core.Logic.{◌≢◌}
use mathlib.Core.Bool.{Bool}
use mathlib.Core.List.{List, [], ◌∷◌, ◌++◌}
use native.Mathlib.Omega.{arith}
use lib.Dec.{eqb}
use lib.ListN.{length, take, drop, length-drop}
use Rattle.records.specs.declared.code.Code.TheVariants.{MOV, CALL}
use Rattle.records.specs.ReadBack.{Each}
use Rattle.records.proofs.Each.{each_drop}
use Rattle.trees.specs.Tree.{leaf, seq}
use Rattle.machine_step.specs.View.{View}
use Rattle.machine_step.specs.Step.{Call, Config}
use Rattle.print_i64.specs.Print.{moves, pushes, save_registers, restore_registers, print_name}
use Rattle.layout_proof.proofs.Runs.{Does, so, then}
use Rattle.print_i64_proof.proofs.Each.{Low, each_take, each_join, each_both}
use Rattle.print_i64_proof.proofs.Stack.{stack_address}
use Rattle.print_i64_proof.proofs.Saved.{Room, Beside, Backed, Stacked, moves_do, pushes_do}
use Rattle.print_i64_proof.proofs.Restored.{backed_same, back_does, pops_do}
use Rattle.print_i64_proof.proofs.Called.{Shifted, at_call, lowers, raises, aligned_at, call_of, Called, call_does}

-- the registers of `moved` are in those from f on, the others in the stack's words after B, and STACK is at word s
pub record Kept (B : ℕ) (o : View) (z : List Call) (f : ℕ) (moved stacked : List ℕ) (s : ℕ) (e : Config) : Type 0 where
  pub stack_at : e.state.reg 0 ≡ stack_address s
  pub below : (j : ℕ) → j ≢ 0 → j < f → e.state.reg j ≡ o.reg j
  pub in_registers : Backed o f moved e.state.reg
  pub in_stack : Stacked o stacked B e.state.stk
  pub beside : Beside B o z e

-- what is as in o after all
pub record Around (B : ℕ) (o : View) (z : List Call) (f : ℕ) (rs : List ℕ) (e : Config) : Type 0 where
  pub stack_at : e.state.reg 0 ≡ stack_address B
  pub saved : Each (λ j. e.state.reg j ≡ o.reg j) rs
  pub reserved : (j : ℕ) → j ≢ 0 → j ≢ 1 → j < 4 → e.state.reg j ≡ o.reg j
  pub high : (j : ℕ) → 12 ≤ j → j < f → e.state.reg j ≡ o.reg j
  pub beside : Beside B o z e

module _ (words : ℕ → ℕ) (B : ℕ) (even : B % 2 ≡ 0) (f : ℕ) (h : 12 ≤ f) where
  -- moved, then pushed
  kept_does : (a b : List ℕ) (n : ℕ) (d : Config) → Room B d.state → length b ≡ n → n ≤ 8 → Each Low a → Each Low b → d.state.reg 0 ≡ stack_address B
      → Does words (seq (moves f a) (pushes b)) d (Kept B d.state d.calls f a b (B + n))
  kept_does a b n d fits c few la lb s =
      let o : View = d.state in
      let z : List Call = d.calls in
      then (moves_do words B o z fits f a d h la (λ j k. refl) (record { spills = λ i k. refl; depth_kept = refl; heap_kept = refl; size_kept = refl; calls_are = refl }))
      (λ e m.
      so (pushes_do words B o z fits b B e (omega arith) (omega (arith, c)) lb (λ j k. m.below j (omega arith)) (m.below 0 (omega arith) ∙ s) m.beside)
      (λ g p. record {
        stack_at = p.stack_at ∙ ap (λ (x : ℕ). stack_address (B + x)) c;
        below = λ j k l. p.others j k ∙ m.below j l;
        in_registers = backed_same o f a e.state.reg g.state.reg (λ j k. p.others j (omega arith)) m.backed;
        in_stack = p.stacked;
        beside = p.beside;
      }))

  kept_shifted : (o : View) (z : List Call) (a b : List ℕ) (s t : ℕ) (d e : Config) → Shifted t d e → Kept B o z f a b s d → Kept B o z f a b t e
  kept_shifted o z a b s t d e x k = record {
    stack_at = x.stack_at;
    below = λ j i l. x.others j i ∙ k.below j i l;
    in_registers = backed_same o f a d.state.reg e.state.reg (λ j i. x.others j (omega arith)) k.in_registers;
    in_stack = subst (λ (g : ℕ → ℕ). Stacked o b B g) (sym x.stack_kept) k.in_stack;
    beside = x.beside B o z k.beside;
  }

  module _ (newline : Bool) (used : ℕ) (rs : List ℕ) (low : Each Low rs) (few : length rs ≤ 8) where
    abbrev a : List ℕ
    a = take used rs

    abbrev b : List ℕ
    b = drop used rs

    -- so many pushes
    abbrev m : ℕ
    m = length rs - used

    all : length b ≡ m
    all = length-drop used rs

    save_does : (d : Config) → Room B d.state → d.state.reg 0 ≡ stack_address B
        → Does words (save_registers f used rs) d (Kept B d.state d.calls f a b (at_call (eqb (m % 2) 0) (B + m)))
    save_does d fits s =
        let o : View = d.state in
        let z : List Call = d.calls in
        then (kept_does a b m d fits all (omega arith) (each_take Low used rs low) (each_drop Low used rs low) s)
        (λ e k.
        so (lowers words e (B + m) (omega (arith, fits.room, fits.small)) (eqb (m % 2) 0) k.stack_at)
        (λ g x. kept_shifted o z a b (B + m) (at_call (eqb (m % 2) 0) (B + m)) e g x k))

    module _ (o : View) (z : List Call) (fits : Room B o) (e : Config) (k : Kept B o z f a b (at_call (eqb (m % 2) 0) (B + m)) e) where
      -- where the call left g
      restore_does : (w : ℕ) (g : Config) → Called B o z newline w e.state.reg e.state.stk g
          → Does words (restore_registers f used rs) g (Around B o (z ++ (call_of newline w ∷ [])) f rs)
      restore_does w g c =
          let z' : List Call = z ++ (call_of newline w ∷ []) in
          then (back_does words B o z' fits f a g h (each_take Low used rs low) (backed_same o f a e.state.reg g.state.reg (λ j i. c.high j (omega arith)) k.in_registers) c.beside)
          (λ p q.
          then (raises words p (B + m) (omega (arith, fits.room, fits.small)) (eqb (m % 2) 0) (q.reserved 0 (omega arith) ∙ c.reserved 0 (omega arith) (omega arith) ∙ k.stack_at))
          (λ r x.
          so (pops_do words B o z' fits b B r (omega arith) (omega (arith, all)) (each_drop Low used rs low) (x.stack_at ∙ ap (λ (y : ℕ). stack_address (B + y)) (sym all))
          (subst (λ (y : ℕ → ℕ). Stacked o b B y) (sym (x.stack_kept ∙ q.stack_kept ∙ c.stack_kept)) k.in_stack) (x.beside B o z' q.beside))
          (λ t u.
          let passes : (j : ℕ) → j ≢ 0 → j < f → g.state.reg j ≡ e.state.reg j → t.state.reg j ≡ o.reg j
          = λ j i l y. u.right j i (x.others j i ∙ q.right j l (y ∙ k.below j i l)) in
          record {
            stack_at = u.stack_at;
            saved = each_join (λ j. t.state.reg j ≡ o.reg j) used rs
                (each_both Low (λ j. p.state.reg j ≡ o.reg j) (λ j. t.state.reg j ≡ o.reg j) a (λ j l y. u.right j (omega arith) (x.others j (omega arith) ∙ y)) (each_take Low used rs low) q.restored)
                u.restored;
            reserved = λ j i i' l. passes j i (omega arith) (c.reserved j i' l);
            high = λ j l l'. passes j (omega arith) l' (c.high j l);
            beside = u.beside;
          })))

    -- the source in register x
    pub around_does : (x : ℕ) (d : Config) → Room B d.state → x ≢ 0 → x < f → d.state.reg 0 ≡ stack_address B
        → Does words (seq (save_registers f used rs) (seq (seq (leaf (MOV 7 x) refl) (leaf (CALL (print_name newline)) refl)) (restore_registers f used rs))) d
        (Around B d.state (d.calls ++ (call_of newline (d.state.reg x) ∷ [])) f rs)
    around_does x d fits i l s =
        let o : View = d.state in
        let z : List Call = d.calls in
        then (save_does d fits s)
        (λ e k.
        then (call_does words B o z newline x (o.reg x) e (ap (λ (y : ℕ). y % 16) k.stack_at ∙ aligned_at B m even (omega (arith, fits.room, fits.small))) (k.below x i l) k.beside)
        (λ g c. restore_does o z fits e k (o.reg x) g c))
