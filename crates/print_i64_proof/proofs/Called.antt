-- STACK brought to a multiple of 16 and back, and the call between.
use Rattle.std.specs.Prelude.{None}
use Prim.Native.Nat.{ℕ, suc, ◌+◌, ◌%◌, ◌≤◌, ◌<◌}
use mathlib.Core.Path.{◌≡◌, refl, ap, ◌∙◌}
use mathlib.Core.Logic.{◌≢◌}
use mathlib.Core.Bool.{Bool, true, false, cond}
use mathlib.Core.List.{List, [], ◌∷◌, ◌++◌}
use native.Mathlib.Omega.{arith}
use lib.Dec.{eqb}
use borrow.Author.Tests.{ne_eqb, eqb-true, eqb-false}
use Rattle.records.specs.declared.code.Code.TheVariants.{ADDI, SUBI, MOV, CALL}
use Rattle.trees.specs.Tree.{nop, leaf, seq}
use Rattle.word.specs.Words.{choose}
use Rattle.layout.specs.Config.{STACK}
use Rattle.machine_step.specs.View.{View, put_reg}
use Rattle.machine_step.specs.Step.{Call, Config, config, changed, after_print, step}
use Rattle.print_i64.specs.Print.{print_name}
use Rattle.trees_proof.specs.Evaluation.{evaluate, done}
use Rattle.layout_proof.proofs.Operands.{with_register}
use Rattle.layout_proof.proofs.HeldLemmas.{upd_same, upd_other}
use Rattle.layout_proof.proofs.RecordLemmas.{register_MOV}
use Rattle.layout_proof.proofs.Runs.{Does, one, go}
use Rattle.print_i64_proof.proofs.Stack.{stack_address, lowered, raised, aligned}
use Rattle.print_i64_proof.proofs.Saved.{Beside}

-- only STACK and the compare changed
pub record Shifted (n : ℕ) (d e : Config) : Type 0 where
  pub stack_at : e.state.reg 0 ≡ stack_address n
  pub others : (j : ℕ) → j ≢ 0 → e.state.reg j ≡ d.state.reg j
  pub stack_kept : e.state.stk ≡ d.state.stk
  pub beside : (B : ℕ) (o : View) (z : List Call) → Beside B o z d → Beside B o z e

-- the stack's word at a call, where STACK was at word n
abbrev pub at_call : Bool → ℕ → ℕ
at_call even n = choose even (suc n) n

shifted : (d : Config) (n : ℕ) → Shifted n d (changed d (put_reg d.state 0 (stack_address n)))
shifted d n = record {
  stack_at = upd_same d.state.reg 0 (stack_address n);
  others = λ j k. upd_other d.state.reg 0 (stack_address n) j k;
  stack_kept = refl;
  beside = λ B o z b. b;
}

unshifted : (d : Config) (n : ℕ) → d.state.reg 0 ≡ stack_address n → Shifted n d d
unshifted d n e = record { stack_at = e; others = λ j k. refl; stack_kept = refl; beside = λ B o z b. b }

module _ (words : ℕ → ℕ) (d : Config) (n : ℕ) (h : n < 1024) where
  pub lowers : (even : Bool) → d.state.reg 0 ≡ stack_address n → Does words (cond even (leaf (SUBI STACK 8) refl) nop) d (Shifted (at_call even n) d)
  unfolding step
  lowers true s = one {d = changed d (put_reg d.state 0 (stack_address (suc n)))} (rw (s, lowered n h)) (shifted d (suc n))
  lowers false s = one refl (unshifted d n s)

  pub raises : (even : Bool) → d.state.reg 0 ≡ stack_address (at_call even n) → Does words (cond even (leaf (ADDI STACK 8) refl) nop) d (Shifted n d)
  unfolding step
  raises true s = one {d = changed d (put_reg d.state 0 (stack_address n))} (rw (s, raised n h)) (shifted d n)
  raises false s = one refl (unshifted d n s)

-- after m pushes from word B on
pub aligned_at : (B m : ℕ) → B % 2 ≡ 0 → B + m < 1023 → stack_address (at_call (eqb (m % 2) 0) (B + m)) % 16 ≡ 0
aligned_at B m o h = by (eqb (m % 2) 0) refl
  where
    by : (even : Bool) → eqb (m % 2) 0 ≡ even → stack_address (at_call even (B + m)) % 16 ≡ 0
    by true e = let q : m % 2 ≡ 0 = eqb-true (m % 2) 0 e in aligned (suc (B + m)) (omega arith) (omega arith)
    by false e = let q : m % 2 ≢ 0 = eqb-false (m % 2) 0 e in aligned (B + m) (omega arith) (omega arith)

abbrev pub call_of : Bool → ℕ → Call
call_of newline w = record { name = print_name newline; number = w }

pub record Called (B : ℕ) (o : View) (z : List Call) (newline : Bool) (w : ℕ) (registers stack : ℕ → ℕ) (e : Config) : Type 0 where
  pub reserved : (j : ℕ) → j ≢ 1 → j < 4 → e.state.reg j ≡ registers j
  pub high : (j : ℕ) → 12 ≤ j → e.state.reg j ≡ registers j
  pub stack_kept : e.state.stk ≡ stack
  pub beside : Beside B o (z ++ (call_of newline w ∷ [])) e

-- what the call leaves, where STACK is a multiple of 16
call_is : (words : ℕ → ℕ) (newline : Bool) (c : Config) → c.state.reg 0 % 16 ≡ 0
    → evaluate words (leaf (CALL (print_name newline)) refl) c ≡ done (config (after_print words c.state) None (c.calls ++ (call_of newline (c.state.reg 7) ∷ [])))
unfolding step
call_is words true c e = rw e
call_is words false c e = rw e

module _ (words : ℕ → ℕ) (s : View) where
  -- registers but 1 and 4..11
  printed_kept : (j : ℕ) → j ≢ 1 → ((r : ℕ) → 4 ≤ r → r < 12 → j ≢ r) → (after_print words s).reg j ≡ s.reg j
  printed_kept j o n =
      rw (
        ne_eqb j 11 (n 11 (omega arith) (omega arith)),
        ne_eqb j 10 (n 10 (omega arith) (omega arith)),
        ne_eqb j 9 (n 9 (omega arith) (omega arith)),
        ne_eqb j 8 (n 8 (omega arith) (omega arith)),
        ne_eqb j 7 (n 7 (omega arith) (omega arith)),
        ne_eqb j 6 (n 6 (omega arith) (omega arith)),
        ne_eqb j 5 (n 5 (omega arith) (omega arith)),
        ne_eqb j 4 (n 4 (omega arith) (omega arith)),
        ne_eqb j 1 o,
      )

-- the word w in register x
pub call_does : (words : ℕ → ℕ) (B : ℕ) (o : View) (z : List Call) (newline : Bool) (x w : ℕ) (d : Config) → d.state.reg 0 % 16 ≡ 0 → d.state.reg x ≡ w → Beside B o z d
    → Does words (seq (leaf (MOV 7 x) refl) (leaf (CALL (print_name newline)) refl)) d (Called B o z newline w d.state.reg d.state.stk)
call_does words B o z newline x w d e q b =
    let y : ℕ = d.state.reg x in
    let c : Config = with_register d 7 y in
    go (register_MOV words d 7 x)
    (one (call_is words newline c e) (record {
      reserved = λ j n h. printed_kept words c.state j n (λ r a b. omega arith) ∙ upd_other d.state.reg 7 y j (omega arith);
      high = λ j h. printed_kept words c.state j (omega arith) (λ r a b. omega arith) ∙ upd_other d.state.reg 7 y j (omega arith);
      stack_kept = refl;
      beside = record {
        spills = b.spills;
        heap_kept = b.heap_kept;
        depth_kept = b.depth_kept;
        size_kept = b.size_kept;
        calls_are = ap (λ (l : List Call). l ++ (call_of newline y ∷ [])) b.calls_are ∙ ap (λ (v : ℕ). z ++ (call_of newline v ∷ [])) q;
      };
    }))
