-- One word changed, what is kept through a change or two, and the order of the operands of positions.
use mathlib.Core.Path.{◌≡◌, refl, sym, ◌∙◌, ap}
use mathlib.Core.Logic.{◌≢◌}
use mathlib.Core.Bool.{Bool, true, false, cond}
use mathlib.Core.List.{List}
use Prim.Native.Nat.{ℕ, ◌+◌, ◌≤◌, ◌<◌}
use native.Mathlib.Omega.{arith}
use native.Mathlib.Decide.{dec_lt}
use lib.Dec.{ltb}
use borrow.Author.Tests.{eq-eqb, ne_eqb, lt-ltb, le-ltb, ltb-true, ltb-false}
use Rattle.records.proofs.Conditions.{both_ways}
use Rattle.layout.specs.declared.config.Shape.{Shape}
use Rattle.layout.specs.Config.{operands, positions}
use Rattle.layout.specs.Positions.{location}
use Rattle.layout.specs.Frame.{stack_word, held_in}
use Rattle.machine_step.specs.View.{View, upd, put_reg, put_stk}
use Rattle.machine_step.specs.Step.{Call}
use Rattle.layout_proof.specs.Held.{operands_in, Kept, PlacedAt}
use Rattle.layout_proof.proofs.Operands.{with_operand}

pub upd_same : (f : ℕ → ℕ) (i w : ℕ) → upd f i w i ≡ w
upd_same f i w = rw (eq-eqb i i refl)

pub upd_other : (f : ℕ → ℕ) (i w j : ℕ) → j ≢ i → upd f i w j ≡ f j
upd_other f i w j n = rw (ne_eqb j i n)

module _ (registers stack : ℕ → ℕ) where
  pub held_register : (l : ℕ) → l < 16 → held_in registers stack l ≡ registers l
  unfolding held_in
  held_register l h = rw (lt-ltb l 16 h)

  pub held_spill : (l : ℕ) → 16 ≤ l → held_in registers stack l ≡ stack (stack_word l)
  unfolding held_in
  held_spill l h = rw (le-ltb l 16 h)

  -- register a changed
  pub register_other : (a w l : ℕ) → l ≢ a → held_in (upd registers a w) stack l ≡ held_in registers stack l
  unfolding held_in
  register_other a w l n = rw (ne_eqb l a n)

  pub register_same : (a w : ℕ) → a < 16 → held_in (upd registers a w) stack a ≡ w
  unfolding held_in
  register_same a w h = rw (lt-ltb a 16 h, eq-eqb a a refl)

  -- the spill with operand m changed
  pub spill_other : (m w l : ℕ) → 16 ≤ m → l ≢ m → held_in registers (upd stack (stack_word m) w) l ≡ held_in registers stack l
  unfolding held_in
  spill_other m w l a n = by (dec_lt l 16)
    where
      by : Dec (l < 16) → held_in registers (upd stack (stack_word m) w) l ≡ held_in registers stack l
      by (yes h) = rw (lt-ltb l 16 h)
      by (no h) =
          let e : 16 ≤ l = omega arith in
          rw (le-ltb l 16 e, ne_eqb (stack_word l) (stack_word m) (omega arith))

  pub spill_same : (m w : ℕ) → 16 ≤ m → held_in registers (upd stack (stack_word m) w) m ≡ w
  unfolding held_in
  spill_same m w a = rw (le-ltb m 16 a, eq-eqb (stack_word m) (stack_word m) refl)

-- operand l of a state changed
module _ (s : View) (l w : ℕ) where
  pub operand_same : held_in (with_operand s l w).reg (with_operand s l w).stk l ≡ w
  operand_same = by (ltb l 16) refl
    where
      by : (t : Bool) → ltb l 16 ≡ t → held_in (cond t (put_reg s l w) (put_stk s (stack_word l) w)).reg (cond t (put_reg s l w) (put_stk s (stack_word l) w)).stk l ≡ w
      by true e = register_same s.reg s.stk l w (ltb-true l 16 e)
      by false e = spill_same s.reg s.stk l w (ltb-false l 16 e)

  pub operand_other : (m : ℕ) → m ≢ l → held_in (with_operand s l w).reg (with_operand s l w).stk m ≡ held_in s.reg s.stk m
  operand_other m n = by (ltb l 16) refl
    where
      by : (t : Bool) → ltb l 16 ≡ t → held_in (cond t (put_reg s l w) (put_stk s (stack_word l) w)).reg (cond t (put_reg s l w) (put_stk s (stack_word l) w)).stk m ≡ held_in s.reg s.stk m
      by true e = register_other s.reg s.stk l w m n
      by false e = spill_other s.reg s.stk l w m (ltb-false l 16 e) n

pub operand_heap : (s : View) (l w : ℕ) → ((with_operand s l w).mem ≡ s.mem) × ((with_operand s l w).size ≡ s.size) × ((with_operand s l w).depth ≡ s.depth)
operand_heap s l w = both_ways (λ (v : View). (v.mem ≡ s.mem) × (v.size ≡ s.size) × (v.depth ≡ s.depth)) (ltb l 16) (refl, refl, refl) (refl, refl, refl)

-- ---- what is kept

module _ {P : ℕ → Type 0} {g k : ℕ → ℕ} {y z : ℕ} {c : List Call} where
  pub keeps_refl : Kept P g k y z c g k y z c
  keeps_refl = record { depth_kept = refl; size_kept = refl; calls_kept = refl; kept = λ l p. refl; beside_kept = λ i f. refl }

  module _ {g₁ k₁ : ℕ → ℕ} {y₁ z₁ : ℕ} {c₁ : List Call} where
    pub keeps_trans : {g₂ k₂ : ℕ → ℕ} {y₂ z₂ : ℕ} {c₂ : List Call} → Kept P g k y z c g₁ k₁ y₁ z₁ c₁ → Kept P g₁ k₁ y₁ z₁ c₁ g₂ k₂ y₂ z₂ c₂ → Kept P g k y z c g₂ k₂ y₂ z₂ c₂
    keeps_trans a b = record { depth_kept = b.depth_kept ∙ a.depth_kept; size_kept = b.size_kept ∙ a.size_kept; calls_kept = b.calls_kept ∙ a.calls_kept; kept = λ l p. b.kept l p ∙ a.kept l p; beside_kept = λ i f. b.beside_kept i (rw a.depth_kept f) ∙ a.beside_kept i f }

    -- fewer operands
    pub keeps_sub : {Q : ℕ → Type 0} → ((l : ℕ) → Q l → P l) → Kept P g k y z c g₁ k₁ y₁ z₁ c₁ → Kept Q g k y z c g₁ k₁ y₁ z₁ c₁
    keeps_sub f a = record { depth_kept = a.depth_kept; size_kept = a.size_kept; calls_kept = a.calls_kept; kept = λ l p. a.kept l (f l p); beside_kept = a.beside_kept }

    pub keeps_put : (a w : ℕ) → ((l : ℕ) → P l → l ≢ a) → Kept P g k y z c g₁ k₁ y₁ z₁ c₁ → Kept P g k y z c (upd g₁ a w) k₁ y₁ z₁ c₁
    keeps_put a w f b = record { depth_kept = b.depth_kept; size_kept = b.size_kept; calls_kept = b.calls_kept; kept = λ l p. register_other g₁ k₁ a w l (f l p) ∙ b.kept l p; beside_kept = b.beside_kept }

    pub keeps_spill : (m w : ℕ) → 16 ≤ m → m < operands_in y → ((l : ℕ) → P l → l ≢ m) → Kept P g k y z c g₁ k₁ y₁ z₁ c₁ → Kept P g k y z c g₁ (upd k₁ (stack_word m) w) y₁ z₁ c₁
    keeps_spill m w h₁ h₂ f b = record { depth_kept = b.depth_kept; size_kept = b.size_kept; calls_kept = b.calls_kept; kept = λ l p. spill_other g₁ k₁ m w l h₁ (f l p) ∙ b.kept l p; beside_kept = λ i q. upd_other k₁ (stack_word m) w i (q m h₁ h₂) ∙ b.beside_kept i q }

    -- a register among the operands kept
    pub keeps_register : Kept P g k y z c g₁ k₁ y₁ z₁ c₁ → (a : ℕ) → a < 16 → P a → g₁ a ≡ g a
    keeps_register b a h p = sym (held_register g₁ k₁ a h) ∙ b.kept a p ∙ held_register g k a h

    pub placed_keeps : {G : Shape} {N : ℕ} → P 0 → Kept P g k y z c g₁ k₁ y₁ z₁ c₁ → PlacedAt G N (g 0) y z → PlacedAt G N (g₁ 0) y₁ z₁
    placed_keeps p b v = record { shape = v.shape; stack = keeps_register b 0 (omega arith) p ∙ v.stack; deep = b.depth_kept ∙ v.deep; words = b.size_kept ∙ v.words; fits = v.fits }

-- an operand of the frame, by the stack's words
pub in_frame : {G : Shape} {N x y z : ℕ} (l : ℕ) → PlacedAt G N x y z → l < operands G → l < operands_in y
in_frame l v h = omega (arith, v.deep)

-- ---- the operands of positions

pub location_low : (p : ℕ) → p < 12 → location p ≡ p + 4
unfolding location
location_low p h = rw (lt-ltb p 12 h)

pub location_high : (p : ℕ) → 12 ≤ p → location p ≡ p + 5
unfolding location
location_high p h = rw (le-ltb p 12 h)

-- they grow with the position, and none is a reserved register or the spill that a load borrows
pub location_grows : (p q : ℕ) → p < q → (4 ≤ location p) × (location p < location q) × (location p ≢ 16)
location_grows p q h = by (dec_lt p 12) (dec_lt q 12)
  where
    by : Dec (p < 12) → Dec (q < 12) → (4 ≤ location p) × (location p < location q) × (location p ≢ 16)
    by (yes a) (yes b) = omega (arith, location_low p a, location_low q b)
    by (yes a) (no b) = omega (arith, location_low p a, location_high q (omega arith))
    by (no a) _ = omega (arith, location_high p (omega arith), location_high q (omega arith))

pub location_fits : (G : Shape) (p : ℕ) → p < positions G → (4 ≤ location p) × (location p < operands G) × (location p ≢ 16)
location_fits G p h = by (dec_lt p 12)
  where
    by : Dec (p < 12) → (4 ≤ location p) × (location p < operands G) × (location p ≢ 16)
    by (yes a) = omega (arith, location_low p a)
    by (no a) = omega (arith, location_high p (omega arith))

pub location_apart : (p q : ℕ) → p ≢ q → location p ≢ location q
location_apart p q n = by (dec_lt p q)
  where
    by : Dec (p < q) → location p ≢ location q
    by (yes h) = omega (arith, (location_grows p q h).1)
    by (no h) = omega (arith, (location_grows q p (omega arith)).1)

pub location_order : (p q : ℕ) → p ≤ q → location p ≤ location q
location_order p q h = by (dec_lt p q)
  where
    by : Dec (p < q) → location p ≤ location q
    by (yes z) = omega (arith, (location_grows p q z).1)
    by (no z) = let t : p ≡ q = omega arith in omega (arith, ap location t)

pub location_free : (p : ℕ) → (4 ≤ location p) × (location p ≢ 16)
location_free p = let a = location_grows p (p + 1) (omega arith) in (a.0, a.2)

-- a position in a register, and one in a spill
pub position_low : (p : ℕ) → location p < 16 → p < 12
position_low p h = by (dec_lt p 12)
  where
    by : Dec (p < 12) → p < 12
    by (yes a) = a
    by (no a) = absurd (omega (arith, location_high p (omega arith)))

pub position_high : (p : ℕ) → 16 ≤ location p → 12 ≤ p
position_high p h = by (dec_lt p 12)
  where
    by : Dec (p < 12) → 12 ≤ p
    by (yes a) = absurd (omega (arith, location_low p a))
    by (no a) = omega arith
