-- One operand changed: what it holds, what stays, and two such changes one after the other.
use Rattle.std.specs.Prelude.{Option}
use Prim.Native.Nat.{ℕ, ◌≤◌, ◌<◌}
use mathlib.Core.Path.{◌≡◌, refl, ◌∙◌}
use mathlib.Core.Logic.{◌≢◌}
use mathlib.Core.Bool.{Bool, true, false, cond, ◌&&◌, ◌||◌}
use lib.Dec.{ltb, leb}
use borrow.Author.Tests.{ltb-true, ltb-false, leb-true}
use Rattle.records.proofs.Conditions.{never}
use Rattle.layout.specs.declared.config.Shape.{Shape}
use Rattle.layout.specs.Config.{TEMP, operands}
use Rattle.layout.specs.Positions.{operand_ok}
use Rattle.layout.specs.Frame.{stack_word}
use Rattle.machine_step.specs.View.{put_reg, put_stk}
use Rattle.machine_step.specs.Step.{Config, config}
use Rattle.layout_proof.specs.Held.{NoSpill, held, operands_in, Placed}
use Rattle.layout_proof.proofs.Operands.{with_operand}
use Rattle.layout_proof.proofs.HeldLemmas.{upd_other, operand_same, operand_other, operand_heap, keeps_trans, keeps_sub, placed_keeps}
use Rattle.code_proof.specs.Claims.{Unchanged, Sets}

-- what a caller may give as an operand
pub record Given (G : Shape) (w : ℕ) : Type 0 where
  pub above : 4 ≤ w
  pub below : w < operands G

pub given : (G : Shape) (w : ℕ) → operand_ok G w ≡ true → Given G w
unfolding operand_ok
given G w e = by (leb 4 w) refl (ltb w (operands G)) refl (ltb w 16 || ltb 16 w) e
  where
    by : (a : Bool) → leb 4 w ≡ a → (b : Bool) → ltb w (operands G) ≡ b → (d : Bool) → (a && b && d) ≡ true → Given G w
    by true p true q d e = record { above = leb-true 4 w p; below = ltb-true w (operands G) q }
    by true p false q d e = never e
    by false p b q d e = never e

module _ {P : ℕ → Type 0} {c d : Config} where
  pub unchanged_trans : {e : Config} → Unchanged P c d → Unchanged P d e → Unchanged P c e
  unchanged_trans a b = record { kept = keeps_trans a.kept b.kept; heap = b.heap ∙ a.heap }

  pub unchanged_sub : {Q : ℕ → Type 0} → ((l : ℕ) → Q l → P l) → Unchanged P c d → Unchanged Q c d
  unchanged_sub f a = record { kept = keeps_sub f a.kept; heap = a.heap }

-- operand t holds w, and every other holds what it held, TEMP too
abbrev pub Puts : ℕ → ℕ → Config → Config → Type 0
Puts t w c d = (held d t ≡ w) × Unchanged (λ l. l ≢ t) c d

-- a spill is one of the frame's
pub put : (c : Config) (t w : ℕ) (q : Option (ℕ × ℕ)) → (16 ≤ t → t < operands_in c.state.depth) → Puts t w c (config (with_operand c.state t w) q c.calls)
put c t w q h = (
  operand_same c.state t w,
  record {
    kept = record {
      depth_kept = (operand_heap c.state t w).2;
      size_kept = (operand_heap c.state t w).1;
      calls_kept = refl;
      kept = λ l n. operand_other c.state t w l n;
      beside_kept = λ i f. by i f (ltb t 16) refl;
    };
    heap = (operand_heap c.state t w).0;
  },
)
  where
    by : (i : ℕ) → NoSpill (operands_in c.state.depth) i → (b : Bool) → ltb t 16 ≡ b
        → (cond b (put_reg c.state t w) (put_stk c.state (stack_word t) w)).stk i ≡ c.state.stk i
    by i f true e = refl
    by i f false e = let m = ltb-false t 16 e in upd_other c.state.stk (stack_word t) w i (f t m (h m))

module _ {c d : Config} {t v : ℕ} where
  pub puts_sets : Puts t v c d → Sets t v c d
  puts_sets p = (p.0, unchanged_sub (λ l n. n.0) p.1)

  pub placed_after : {G : Shape} {N : ℕ} → Puts t v c d → 0 ≢ t → Placed G N c → Placed G N d
  placed_after p n h = placed_keeps n p.1.kept h

  -- another operand
  pub puts_other : Puts t v c d → (l : ℕ) → l ≢ t → held d l ≡ held c l
  puts_other p l n = p.1.kept.kept l n

  -- the same operand again
  pub puts_again : {e : Config} {w : ℕ} → Puts t v c d → Puts t w d e → Puts t w c e
  puts_again p q = (q.0, unchanged_trans p.1 q.1)

-- TEMP, and then an operand
pub by_temp : {c d e : Config} {t v w : ℕ} → Puts TEMP v c d → Puts t w d e → Sets t w c e
by_temp p q = (q.0, unchanged_trans (unchanged_sub (λ l n. n.1) p.1) (unchanged_sub (λ l n. n.0) q.1))
