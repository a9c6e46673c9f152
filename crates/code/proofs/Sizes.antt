-- How many records the trees of code.rs have at most, and that they draw no labels.
use Prim.Native.Nat.{ℕ, ◌+◌, ◌≤◌, max}
use mathlib.Core.Bool.{Bool, true, cond}
use mathlib.Core.Path.{◌≡◌, refl}
use native.Mathlib.Omega.{arith}
use lib.Dec.{ltb, eqb}
use Rattle.records.specs.declared.code.Code.{Code}
use Rattle.records.specs.declared.order.Calculation.{Calculation}
use Rattle.records.specs.declared.order.Calculation.TheVariants.{Add, Sub, Mul, Div, Rem}
use Rattle.records.proofs.Conditions.{both_ways}
use Rattle.trees.specs.Tree.{Tree, straight, leaf, seq, labels, size}
use Rattle.layout.specs.declared.config.Shape.{Shape}
use Rattle.layout.specs.Config.{TEMP, RETURN1, RETURN2}
use Rattle.code.specs.Code.{move_from, move_to, to_register, to_spill, into_register, through_temp, commutative, subtraction, divide_by, divide_kept, restored, div_tree, rem_tree, arithmetic, compare_words, compare_immediate, load_immediate, load_label, mov_tree}

-- no labels, and at most n records
pub record Plain (t : Tree) (n : ℕ) : Type 0 where
  pub none : labels t ≡ 0
  pub most : size t ≤ n

one : {x : Code} {s : straight x ≡ true} → Plain (leaf x s) 1
one = record { none = refl; most = omega arith }

infixr 5 ◌then◌
◌then◌ : {t u : Tree} {m n : ℕ} → Plain t m → Plain u n → Plain (seq t u) (m + n)
a then b = record { none = omega arith; most = omega arith }

within : {t : Tree} {m n : ℕ} → Plain t m → m ≤ n → Plain t n
within x h = record { none = x.none; most = omega arith }

either : (b : Bool) {t u : Tree} {m n : ℕ} → Plain t m → Plain u n → Plain (cond b t u) (max m n)
either b {m = m} {n = n} x y = both_ways (λ z. Plain z (max m n)) b (within x (omega arith)) (within y (omega arith))

module _ (g : Shape) where
  pub plain_move_from : (w r : ℕ) → Plain (move_from g w r) 1
  plain_move_from w r = either (ltb w 16) one one

  pub plain_move_to : (r w : ℕ) → Plain (move_to g r w) 1
  plain_move_to r w = either (ltb w 16) one one

  pub plain_to_register : (n r w : ℕ) → Plain (to_register g n r w) 1
  plain_to_register n r w =
      either (ltb w 16) (either (eqb n 0) one (either (eqb n 1) one one)) (either (eqb n 0) one (either (eqb n 1) one one))

  pub plain_to_spill : (n w x : ℕ) → Plain (to_spill g n w x) 2
  plain_to_spill n w x =
      either (ltb x 16) (either (eqb n 0) one (either (eqb n 1) one one)) (one then either (eqb n 0) one (either (eqb n 1) one one))

  pub plain_into_register : (n r x y : ℕ) → Plain (into_register g n r x y) 2
  plain_into_register n r x y = plain_move_to r x then plain_to_register n r y

  pub plain_through_temp : (n t x y : ℕ) → Plain (through_temp g n t x y) 3
  plain_through_temp n t x y = plain_into_register n TEMP x y then plain_move_from t TEMP

  pub plain_commutative : (n t x y : ℕ) → Plain (commutative g n t x y) 3
  plain_commutative n t x y =
      either (ltb t 16)
      (either (eqb t x) (plain_to_register n t y) (either (eqb t y) (plain_to_register n t x) (plain_into_register n t x y)))
      (either (eqb t x) (plain_to_spill n t y) (either (eqb t y) (plain_to_spill n t x) (plain_through_temp n t x y)))

  pub plain_subtraction : (t x y : ℕ) → Plain (subtraction g t x y) 3
  plain_subtraction t x y =
      either (ltb t 16)
      (either (eqb t x) (plain_to_register 1 t y) (either (eqb t y) (plain_through_temp 1 t x y) (plain_into_register 1 t x y)))
      (either (eqb t x) (plain_to_spill 1 t y) (plain_through_temp 1 t x y))

  pub plain_divide_by : (w : ℕ) → Plain (divide_by g w) 2
  plain_divide_by w = one then either (ltb w 16) (either (eqb w RETURN2) one one) one

  pub plain_divide_kept : (t x y : ℕ) → Plain (divide_kept g t x y) 5
  plain_divide_kept t x y = one then plain_move_from t RETURN1 then plain_move_to RETURN1 x then plain_divide_by y

  pub plain_restored : (t : ℕ) → Plain (restored g t) 3
  plain_restored t = plain_move_to RETURN1 t then plain_move_from t RETURN2 then one

  plain_quotient : (t x y : ℕ) → Plain (div_tree g t x y) 9
  plain_quotient t x y = plain_divide_kept t x y then one then plain_restored t

  plain_remainder : (t x y : ℕ) → Plain (rem_tree g t x y) 8
  plain_remainder t x y = plain_divide_kept t x y then plain_restored t

  pub plain_arithmetic : (o : Calculation) (t x y : ℕ) → Plain (arithmetic g o t x y) 9
  plain_arithmetic Add t x y = within (plain_commutative 0 t x y) (omega arith)
  plain_arithmetic Sub t x y = within (plain_subtraction t x y) (omega arith)
  plain_arithmetic Mul t x y = within (plain_commutative 2 t x y) (omega arith)
  plain_arithmetic Div t x y = plain_quotient t x y
  plain_arithmetic Rem t x y = within (plain_remainder t x y) (omega arith)

  pub plain_compare : (x y : ℕ) → Plain (compare_words g x y) 2
  plain_compare x y = either (ltb x 16) (either (ltb y 16) one one) (either (ltb y 16) one (one then one))

  pub plain_compare_immediate : (w value : ℕ) → Plain (compare_immediate g w value) 1
  plain_compare_immediate w value = either (ltb w 16) one one

  pub plain_load_immediate : (w value : ℕ) → Plain (load_immediate g w value) 1
  plain_load_immediate w value = either (ltb w 16) one one

  pub plain_load_label : (w l : ℕ) → Plain (load_label g w l) 2
  plain_load_label w l = either (ltb w 16) one (one then one)

  pub plain_mov : (w x : ℕ) → Plain (mov_tree g w x) 2
  plain_mov w x =
      either (ltb x 16) (plain_move_from w x) (either (ltb w 16) (plain_move_to w x) (plain_move_to TEMP x then plain_move_from w TEMP))
