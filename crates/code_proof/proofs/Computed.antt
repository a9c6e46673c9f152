-- mov, add, sub and mul do what they name: one lemma over the operation, for every mixture of registers and spills.
use Prim.Native.Nat.{ℕ, ◌%◌, ◌^◌, ◌≤◌, ◌<◌}
use mathlib.Core.Path.{◌≡◌, refl, sym, ap, ◌∙◌}
use mathlib.Core.Logic.{◌≢◌}
use mathlib.Core.Bool.{Bool, true, false, cond}
use native.Mathlib.Omega.{arith}
use native.Mathlib.Nat.{add_comm, mul_comm}
use lib.Dec.{ltb, eqb}
use borrow.Author.Tests.{ltb-true, ltb-false, eqb-true, eqb-false}
use Rattle.records.specs.declared.code.Code.TheVariants.{MOVL}
use Rattle.trees.specs.Tree.{Tree, leaf, seq}
use Rattle.layout.specs.declared.config.Shape.{Shape}
use Rattle.layout.specs.Config.{STACK, TEMP, operands, stack_offset}
use Rattle.code.specs.Code.{spill_register, move_from, move_to, to_register, to_spill, into_register, through_temp, commutative, subtraction, mov_tree}
use Rattle.word.specs.Words.{sum, product}
use Rattle.machine_step.specs.Step.{Config}
use Rattle.layout_proof.specs.Held.{held, Placed}
use Rattle.layout_proof.proofs.Runs.{Does, then, so}
use Rattle.code_proof.specs.Claims.{Sets}
use Rattle.code_proof.proofs.Puts.{Given, Puts, puts_sets, placed_after, puts_other, puts_again, by_temp}
use Rattle.code_proof.proofs.Records.{Basic, minus, number, result, to_does, from_does, register_does, spill_does}

pub sum_comm : (x y : ℕ) → sum x y ≡ sum y x
unfolding sum
sum_comm x y = ap (λ n. n % 2 ^ 64) (add_comm x y)

pub product_comm : (x y : ℕ) → product x y ≡ product y x
unfolding product
product_comm x y = ap (λ n. n % 2 ^ 64) (mul_comm x y)

module _ (words : ℕ → ℕ) {G : Shape} {N : ℕ} (c : Config) (v : Placed G N c) where
  -- by TEMP to a target
  temp_to : {a : Tree} (t : ℕ) {w : ℕ} → t < operands G → Does words a c (Puts TEMP w c) → Does words (seq a (move_from G t TEMP)) c (Sets t w c)
  temp_to t h r =
      then r (λ d p. so (from_does words d (placed_after p (omega arith) v) TEMP t (omega arith) h)
      (λ e q. let s = by_temp p q in (s.0 ∙ p.0, s.1)))

  pub mov_does : (t x : ℕ) → t < operands G → x < operands G → Does words (mov_tree G t x) c (Sets t (held c x) c)
  mov_does t x h k = by (ltb x 16) refl (ltb t 16) refl
    where
      by : (a : Bool) → ltb x 16 ≡ a → (b : Bool) → ltb t 16 ≡ b
          → Does words (cond a (move_from G t x) (cond b (move_to G t x) (seq (move_to G TEMP x) (move_from G t TEMP)))) c (Sets t (held c x) c)
      by true e b f = so (from_does words c v x t (ltb-true x 16 e) h) (λ d. puts_sets)
      by false e true f = so (to_does words c v t x (ltb-true t 16 f) k) (λ d. puts_sets)
      by false e false f = temp_to t h (to_does words c v TEMP x (omega arith) k)

  -- the first source to a register, and the operation on it with the second, which that register is not
  into_does : (o : Basic) (r x y : ℕ) → r < 16 → 0 ≢ r → x < operands G → y < operands G → y ≢ r
      → Does words (into_register G (number o) r x y) c (Puts r (result o (held c x) (held c y)) c)
  into_does o r x y h z k l n =
      then (to_does words c v r x h k)
      (λ d p. so (register_does words d (placed_after p z v) r y h l o)
      (λ e q. let s = puts_again p q in (s.0 ∙ (rw (p.0, puts_other p y n)), s.1)))

  through_does : (o : Basic) (t x y : ℕ) → t < operands G → x < operands G → Given G y → Does words (through_temp G (number o) t x y) c (Sets t (result o (held c x) (held c y)) c)
  through_does o t x y h k l = temp_to t h (into_does o TEMP x y (omega arith) (omega arith) k l.below (omega (arith, l.above)))

  -- the target is the first source
  spill_in_place : (o : Basic) (t x : ℕ) → 16 ≤ t → t < operands G → x < operands G → Does words (to_spill G (number o) t x) c (Sets t (result o (held c t) (held c x)) c)
  spill_in_place o t x m h k = by (ltb x 16) refl
    where
      by : (b : Bool) → ltb x 16 ≡ b
          → Does words (cond b (spill_register (number o) (stack_offset G t) x) (seq (leaf (MOVL TEMP STACK (stack_offset G x)) refl) (spill_register (number o) (stack_offset G t) TEMP))) c
          (Sets t (result o (held c t) (held c x)) c)
      by true e = so (spill_does words c v x t (ltb-true x 16 e) h o m) (λ d. puts_sets)
      by false e =
          let r : Does words (leaf (MOVL TEMP STACK (stack_offset G x)) refl) c (Puts TEMP (held c x) c) = rw e at (to_does words c v TEMP x (omega arith) k) in
          then r (λ d p. so (spill_does words d (placed_after p (omega arith) v) TEMP t (omega arith) h o m)
          (λ u q. let s = by_temp p q in (s.0 ∙ (rw (p.0, puts_other p t (omega arith))), s.1)))

  -- the trees of add, sub and mul, where R is what stands for a register that is the second source, and S for a spill that is not the first
  abbrev shape : Basic → ℕ → ℕ → ℕ → Tree → Tree → Tree
  shape o t x y R S =
      cond (ltb t 16)
      (cond (eqb t x) (to_register G (number o) t y) (cond (eqb t y) R (into_register G (number o) t x y)))
      (cond (eqb t x) (to_spill G (number o) t y) S)

  module _ (t x y : ℕ) (f : Given G t) (g : Given G x) (k : Given G y) where
    abbrev Named : Basic → Tree → Type 0
    Named o tree = Does words tree c (Sets t (result o (held c x) (held c y)) c)

    shape_does : (o : Basic) (R S : Tree) → (t < 16 → t ≡ y → Named o R) → (16 ≤ t → Named o S) → Named o (shape o t x y R S)
    shape_does o R S a b = by (ltb t 16) refl (eqb t x) refl (eqb t y) refl
      where
        by : (l : Bool) → ltb t 16 ≡ l → (p : Bool) → eqb t x ≡ p → (q : Bool) → eqb t y ≡ q
            → Named o (cond l (cond p (to_register G (number o) t y) (cond q R (into_register G (number o) t x y))) (cond p (to_spill G (number o) t y) S))
        by true e true h q m = rw (← (eqb-true t x h)) (so (register_does words c v t y (ltb-true t 16 e) k.below o) (λ d. puts_sets))
        by true e false h true m = a (ltb-true t 16 e) (eqb-true t y m)
        by true e false h false m =
            so (into_does o t x y (ltb-true t 16 e) (omega (arith, f.above)) g.below k.below (λ z. eqb-false t y m (sym z))) (λ d. puts_sets)
        by false e true h q m = rw (← (eqb-true t x h)) (spill_in_place o t y (ltb-false t 16 e) f.below k.below)
        by false e false h q m = b (ltb-false t 16 e)

    through : (o : Basic) → Named o (through_temp G (number o) t x y)
    through o = through_does o t x y f.below g.below k

    -- where the operation may take its sources in the other sequence
    pub commutative_does : (o : Basic) → result o (held c x) (held c y) ≡ result o (held c y) (held c x) → Named o (commutative G (number o) t x y)
    commutative_does o comm =
        shape_does o (to_register G (number o) t x) (cond (eqb t y) (to_spill G (number o) t x) (through_temp G (number o) t x y))
        (λ h e. rw (comm, ← e) (so (register_does words c v t x h g.below o) (λ d. puts_sets)))
        (λ h. by h (eqb t y) refl)
      where
        by : 16 ≤ t → (q : Bool) → eqb t y ≡ q → Named o (cond q (to_spill G (number o) t x) (through_temp G (number o) t x y))
        by h true e = rw (comm, ← (eqb-true t y e)) (spill_in_place o t x h f.below g.below)
        by h false e = through o

    pub subtraction_does : Named minus (subtraction G t x y)
    subtraction_does =
        shape_does minus (through_temp G 1 t x y) (through_temp G 1 t x y) (λ h e. through minus) (λ h. through minus)
