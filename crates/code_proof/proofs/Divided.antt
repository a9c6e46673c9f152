-- div and rem do what they name, or fault: RETURN2 waits in TEMP and RETURN1 in the target while the division uses both.
use Rattle.std.specs.Prelude.{None, Some}
use Prim.Native.Nat.{ℕ, ◌≤◌}
use mathlib.Core.Path.{◌≡◌, refl, sym, ap, ◌∙◌}
use mathlib.Core.Logic.{◌≢◌}
use mathlib.Core.Bool.{Bool, true, false, cond}
use native.Mathlib.Omega.{arith}
use lib.Dec.{ltb, eqb}
use borrow.Author.Tests.{ltb-true, ltb-false, eq-eqb, eqb-true, eqb-false}
use Rattle.records.specs.declared.code.Code.TheVariants.{IDIV, IDIVM, CQO, MOV}
use Rattle.records.specs.declared.order.Calculation.TheVariants.{Div, Rem}
use Rattle.records.proofs.Conditions.{never}
use Rattle.trees.specs.Tree.{Tree, leaf, seq}
use Rattle.layout.specs.declared.config.Shape.{Shape}
use Rattle.layout.specs.Config.{STACK, TEMP, RETURN1, RETURN2, stack_offset}
use Rattle.code.specs.Code.{divide_by, divide_kept, restored, arithmetic}
use Rattle.word.specs.Words.{signs, quotient, remainder, divisible, divides}
use Rattle.machine_step.specs.View.{put_reg}
use Rattle.machine_step.specs.Memory.{Operand, register, memory, value_of}
use Rattle.machine_step.specs.Step.{Config, changed, next, fault, divide, step}
use Rattle.trees_proof.specs.Evaluation.{Evaluated, done, faulted, evaluate, evaluated}
use Rattle.layout_proof.specs.Held.{held, Placed}
use Rattle.layout_proof.proofs.HeldLemmas.{held_register, placed_keeps}
use Rattle.layout_proof.proofs.PlaceLemmas.{spill_read}
use Rattle.layout_proof.proofs.Runs.{Does, then, go, so}
use Rattle.code_proof.specs.Claims.{Unchanged, Sets, DivisionOperands}
use Rattle.code_proof.proofs.Puts.{Given, unchanged_trans, unchanged_sub, Puts, put, placed_after, puts_other}
use Rattle.code_proof.proofs.Records.{to_does, from_does}

-- the operands that a division never writes
abbrev Far : ℕ → ℕ → Type 0
Far t l = (l ≢ t) × (l ≢ TEMP) × (l ≢ RETURN1) × (l ≢ RETURN2)

-- a division with target t faults, and only t, TEMP and registers 4 and 5 are then other than before
pub record Stops (words : ℕ → ℕ) (tree : Tree) (c : Config) (t : ℕ) : Type 0 where
  pub at : Config
  pub run : evaluate words tree c ≡ faulted at
  pub rest : Unchanged (Far t) c at

-- with what is known of more operands
wider : {P Q : ℕ → Type 0} {c d : Config} → Unchanged P c d → ((l : ℕ) → Q l → held d l ≡ held c l) → Unchanged Q c d
wider u f = record { kept = record { depth_kept = u.kept.depth_kept; size_kept = u.kept.size_kept; calls_kept = u.kept.calls_kept; kept = f; beside_kept = u.kept.beside_kept }; heap = u.heap }

-- what a tree comes to, done or at a fault
record Comes (words : ℕ → ℕ) (tree : Tree) (c : Config) (R : Evaluated → Type 0) : Type 0 where
  outcome : R (evaluate words tree c)

-- a part that runs, and then the rest
on : {words : ℕ → ℕ} {a b : Tree} {c : Config} {P : Config → Type 0} {R : Evaluated → Type 0} → Does words a c P → ((d : Config) → P d → Comes words b d R) → Comes words (seq a b) c R
on r k = record { outcome = rw r.run (k r.to r.post).outcome }

divides_where : (a d : ℕ) → divides (signs a) a d ≡ divisible a d
unfolding divides
divides_where a d = rw (eq-eqb (signs a) (signs a) refl)

-- after CQO on a, and after IDIV of a by d
abbrev extended : Config → ℕ → Config
extended c a = changed c (put_reg c.state RETURN2 (signs a))

abbrev divided : Config → ℕ → ℕ → Config
divided c a d = changed c (put_reg (put_reg c.state RETURN1 (quotient a d)) RETURN2 (remainder a d))

divide_is : (c : Config) (src : Operand) (a d : ℕ) → value_of c.state src ≡ Some d → c.state.reg RETURN1 ≡ a → c.state.reg RETURN2 ≡ signs a
    → evaluated (divide src c) ≡ cond (divisible a d) (done (divided c a d)) (faulted c)
divide_is c src a d e l h = rw (e, h, l, divides_where a d) (by (divisible a d))
  where
    by : (b : Bool) → evaluated (cond b (next (divided c a d)) (fault c)) ≡ cond b (done (divided c a d)) (faulted c)
    by true = refl
    by false = refl

-- where divide_by has its divisor: RETURN2's word is in TEMP
abbrev divisor_at : Shape → ℕ → Operand
divisor_at G w = cond (ltb w 16) (cond (eqb w RETURN2) (register TEMP) (register w)) (memory STACK (stack_offset G w))

module _ (words : ℕ → ℕ) where
  by_is : (G : Shape) (c : Config) (w a : ℕ) → c.state.reg RETURN1 ≡ a → evaluate words (divide_by G w) c ≡ evaluated (divide (divisor_at G w) (extended c a))
  unfolding step
  by_is G c w a l = rw (← l) (by (ltb w 16) (eqb w RETURN2))
    where
      by : (p q : Bool) → evaluate words (seq (leaf CQO refl) (cond p (cond q (leaf (IDIV TEMP) refl) (leaf (IDIV w) refl)) (leaf (IDIVM STACK (stack_offset G w)) refl))) c
          ≡ evaluated (divide (cond p (cond q (register TEMP) (register w)) (memory STACK (stack_offset G w))) (extended c (c.state.reg RETURN1)))
      by true true = refl
      by true false = refl
      by false q = refl

  module _ {G : Shape} {N : ℕ} (c : Config) (v : Placed G N c) (t x y : ℕ) (f : Given G t) (g : Given G x) (k : Given G y) (n : DivisionOperands t x y) where
    abbrev dividend : ℕ
    dividend = held c x

    abbrev divisor : ℕ
    divisor = held c y

    -- RETURN2 in TEMP, RETURN1 in the target, and a word in RETURN1
    record Prepared (d : Config) : Type 0 where
      temp : held d TEMP ≡ held c RETURN2
      saved : held d t ≡ held c RETURN1
      first : held d RETURN1 ≡ dividend
      rest : Unchanged (Far t) c d

    -- the same with a word in RETURN2
    record Middle (w : ℕ) (d : Config) : Type 0 where
      temp : held d TEMP ≡ held c RETURN2
      saved : held d t ≡ held c RETURN1
      result : held d RETURN2 ≡ w
      rest : Unchanged (Far t) c d

    -- after the division
    abbrev Halfway : Evaluated → Type 0
    Halfway (done d) = (divisible dividend divisor ≡ true) × (held d RETURN1 ≡ quotient dividend divisor) × Middle (remainder dividend divisor) d
    Halfway (faulted d) = (divisible dividend divisor ≡ false) × Unchanged (Far t) c d

    placed_far : {d : Config} → Unchanged (Far t) c d → Placed G N d
    placed_far u = placed_keeps (omega (arith, f.above), omega arith, omega arith, omega arith) u.kept v

    divisor_read : (d : Config) → Prepared d → value_of d.state (divisor_at G y) ≡ Some divisor
    divisor_read d r = by (ltb y 16) refl (eqb y RETURN2) refl
      where
        far : y ≢ RETURN2 → held d y ≡ divisor
        far m = r.rest.kept.kept y (λ z. n.not_divisor (sym z), omega (arith, k.above), n.divisor, m)

        by : (p : Bool) → ltb y 16 ≡ p → (q : Bool) → eqb y RETURN2 ≡ q
            → value_of d.state (cond p (cond q (register TEMP) (register y)) (memory STACK (stack_offset G y))) ≡ Some divisor
        by true e true h = ap Some (sym (held_register d.state.reg d.state.stk 1 (omega arith)) ∙ r.temp ∙ ap (held c) (sym (eqb-true y RETURN2 h)))
        by true e false h = ap Some (sym (held_register d.state.reg d.state.stk y (ltb-true y 16 e)) ∙ far (eqb-false y RETURN2 h))
        by false e q h =
            let m : 16 ≤ y = ltb-false y 16 e in
            spill_read d.state (placed_far r.rest) y m k.below ∙ ap Some (far (omega arith))

    -- what RETURN2 holds is no matter
    ready_still : (d : Config) (w : ℕ) → Prepared d → Prepared (changed d (put_reg d.state RETURN2 w))
    ready_still d w r =
        let p : Puts RETURN2 w d (changed d (put_reg d.state RETURN2 w)) = put d RETURN2 w None (λ z. absurd (omega arith)) in
        record {
          temp = puts_other p TEMP (omega arith) ∙ r.temp;
          saved = puts_other p t n.not_remainder ∙ r.saved;
          first = puts_other p RETURN1 (omega arith) ∙ r.first;
          rest = unchanged_trans r.rest (unchanged_sub (λ l z. z.3) p.1);
        }

    divided_middle : (d : Config) → Prepared d → (held (divided d dividend divisor) RETURN1 ≡ quotient dividend divisor) × Middle (remainder dividend divisor) (divided d dividend divisor)
    divided_middle d r =
        let q : ℕ = quotient dividend divisor in
        let m : ℕ = remainder dividend divisor in
        let e : Config = changed d (put_reg d.state RETURN1 q) in
        let a : Puts RETURN1 q d e = put d RETURN1 q None (λ z. absurd (omega arith)) in
        let b : Puts RETURN2 m e (divided d dividend divisor) = put e RETURN2 m None (λ z. absurd (omega arith)) in (
          puts_other b RETURN1 (omega arith) ∙ a.0,
          record {
            temp = puts_other b TEMP (omega arith) ∙ puts_other a TEMP (omega arith) ∙ r.temp;
            saved = puts_other b t n.not_remainder ∙ puts_other a t n.not_quotient ∙ r.saved;
            result = b.0;
            rest = unchanged_trans r.rest (unchanged_trans (unchanged_sub (λ l z. z.2) a.1) (unchanged_sub (λ l z. z.3) b.1));
          },
        )

    halfway : (d : Config) → Prepared d → Comes words (divide_by G y) d Halfway
    halfway d r =
        let low : d.state.reg RETURN1 ≡ dividend = sym (held_register d.state.reg d.state.stk RETURN1 (omega arith)) ∙ r.first in
        let s = ready_still d (signs dividend) r in
        record {
          outcome = rw (by_is G d y dividend low ∙ divide_is (extended d dividend) (divisor_at G y) dividend divisor (divisor_read (extended d dividend) s) low refl)
              (by s (divisible dividend divisor) refl);
        }
      where
        by : Prepared (extended d dividend) → (b : Bool) → divisible dividend divisor ≡ b
            → Halfway (cond b (done (divided (extended d dividend) dividend divisor)) (faulted (extended d dividend)))
        by s true e = let m = divided_middle (extended d dividend) s in (e, m.0, m.1)
        by s false e = (e, s.rest)

    kept_halfway : Comes words (divide_kept G t x y) c Halfway
    kept_halfway =
        let zt : 0 ≢ t = omega (arith, f.above) in
        let tt₁ : TEMP ≢ t = omega (arith, f.above) in
        on (to_does words c v TEMP RETURN2 (omega arith) (omega arith)) (λ c₁ p₁.
        let v₁ = placed_after p₁ (omega arith) v in
        on (from_does words c₁ v₁ RETURN1 t (omega arith) f.below) (λ c₂ p₂.
        on (to_does words c₂ (placed_after p₂ zt v₁) RETURN1 x (omega arith) g.below) (λ c₃ p₃.
        halfway c₃ (record {
          temp = puts_other p₃ TEMP (omega arith) ∙ puts_other p₂ TEMP tt₁ ∙ p₁.0;
          saved = puts_other p₃ t n.not_quotient ∙ p₂.0 ∙ puts_other p₁ RETURN1 (omega arith);
          first = p₃.0 ∙ puts_other p₂ x (λ z. n.not_dividend (sym z)) ∙ puts_other p₁ x (omega (arith, g.above));
          rest = unchanged_trans (unchanged_sub (λ l z. z.1) p₁.1) (unchanged_trans (unchanged_sub (λ l z. z.0) p₂.1) (unchanged_sub (λ l z. z.2) p₃.1));
        }))))

    -- the words of RETURN1 and RETURN2 back, and the result in the target
    restored_does : (w : ℕ) (d : Config) → Middle w d → Does words (restored G t) d (Sets t w c)
    restored_does w d m =
        let v₀ = placed_far m.rest in
        let zt : 0 ≢ t = omega (arith, f.above) in
        then (to_does words d v₀ RETURN1 t (omega arith) f.below) (λ d₁ p₁.
        let v₁ = placed_after p₁ (omega arith) v₀ in
        then (from_does words d₁ v₁ RETURN2 t (omega arith) f.below) (λ d₂ p₂.
        so (to_does words d₂ (placed_after p₂ zt v₁) RETURN2 TEMP (omega arith) (omega arith)) (λ d₃ p₃. (
          puts_other p₃ t n.not_remainder ∙ p₂.0 ∙ puts_other p₁ RETURN2 (omega arith) ∙ m.result,
          wider (unchanged_trans m.rest (unchanged_trans (unchanged_sub (λ l z. z.2) p₁.1) (unchanged_trans (unchanged_sub (λ l z. z.0) p₂.1) (unchanged_sub (λ l z. z.3) p₃.1))))
              (back d₁ d₂ d₃ p₁ p₂ p₃),
        ))))
      where
        back : (d₁ d₂ d₃ : Config) → Puts RETURN1 (held d t) d d₁ → Puts t (held d₁ RETURN2) d₁ d₂ → Puts RETURN2 (held d₂ TEMP) d₂ d₃
            → (l : ℕ) → (l ≢ t) × (l ≢ TEMP) → held d₃ l ≡ held c l
        back d₁ d₂ d₃ p₁ p₂ p₃ l z = by (eqb l RETURN1) refl (eqb l RETURN2) refl
          where
            by : (a : Bool) → eqb l RETURN1 ≡ a → (b : Bool) → eqb l RETURN2 ≡ b → held d₃ l ≡ held c l
            by true e b u =
                rw (eqb-true l RETURN1 e) (puts_other p₃ RETURN1 (omega arith) ∙ puts_other p₂ RETURN1 (λ y. n.not_quotient (sym y)) ∙ p₁.0 ∙ m.saved)
            by false e true u =
                rw (eqb-true l RETURN2 u) (p₃.0 ∙ puts_other p₂ TEMP (omega (arith, f.above)) ∙ puts_other p₁ TEMP (omega arith) ∙ m.temp)
            by false e false u =
                let k₁ = eqb-false l RETURN1 e in
                let k₂ = eqb-false l RETURN2 u in
                puts_other p₃ l k₂ ∙ puts_other p₂ l z.0 ∙ puts_other p₁ l k₁ ∙ m.rest.kept.kept l (z.0, z.1, k₁, k₂)

    -- a tree leaves w in the target where the division has a result, and stops where it has none
    abbrev pub Divides : Tree → ℕ → Type 0
    Divides tree w = (divisible dividend divisor ≡ true → Does words tree c (Sets t w c)) × (divisible dividend divisor ≡ false → Stops words tree c t)

    -- a whole division: what follows its first half, where that is done
    whole : (tail : Tree) (w : ℕ) → ((d : Config) → held d RETURN1 ≡ quotient dividend divisor → Middle (remainder dividend divisor) d → Does words tail d (Sets t w c))
        → Divides (seq (divide_kept G t x y) tail) w
    whole tail w k = by (evaluate words (divide_kept G t x y) c) refl kept_halfway.outcome
      where
        by : (o : Evaluated) → evaluate words (divide_kept G t x y) c ≡ o → Halfway o → Divides (seq (divide_kept G t x y) tail) w
        by (done d) e h = (λ z. go e (k d h.1 h.2), λ z. never (sym z ∙ h.0))
        by (faulted d) e h = (λ z. never (sym h.0 ∙ z), λ z. record { at = d; run = rw e; rest = h.1 })

    quotient_does : (d : Config) → held d RETURN1 ≡ quotient dividend divisor → Middle (remainder dividend divisor) d
        → Does words (seq (leaf (MOV RETURN2 RETURN1) refl) (restored G t)) d (Sets t (quotient dividend divisor) c)
    quotient_does d e m =
        then (to_does words d (placed_far m.rest) RETURN2 RETURN1 (omega arith) (omega arith)) (λ d₁ p.
        restored_does (quotient dividend divisor) d₁ (record {
          temp = puts_other p TEMP (omega arith) ∙ m.temp;
          saved = puts_other p t n.not_remainder ∙ m.saved;
          result = p.0 ∙ e;
          rest = unchanged_trans m.rest (unchanged_sub (λ l z. z.3) p.1);
        }))

    pub quotient_whole : Divides (arithmetic G Div t x y) (quotient dividend divisor)
    quotient_whole = whole (seq (leaf (MOV RETURN2 RETURN1) refl) (restored G t)) (quotient dividend divisor) quotient_does

    pub remainder_whole : Divides (arithmetic G Rem t x y) (remainder dividend divisor)
    remainder_whole = whole (restored G t) (remainder dividend divisor) (λ d e m. restored_does (remainder dividend divisor) d m)
