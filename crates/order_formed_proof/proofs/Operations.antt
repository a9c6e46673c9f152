-- The trees of code.rs are well formed: an operand is a register, or a spill, whose offset fits.
use Prim.Native.Nat.{ℕ, ◌^◌, ◌<◌}
use lib.Dec.{eqb}
use Rattle.records.specs.declared.order.Calculation.{Calculation}
use Rattle.records.specs.declared.order.Calculation.TheVariants.{Add, Sub, Mul, Div, Rem}
use Rattle.layout.specs.declared.config.Shape.{Shape}
use Rattle.layout.specs.Config.{Supported, RETURN2}
use Rattle.code.specs.Code.{register_register, register_spill, spill_register, move_from, move_to, to_register, to_spill, into_register, through_temp, commutative, subtraction, divide_by, divide_kept, restored, div_tree, rem_tree, arithmetic, load_immediate, load_label, mov_tree, compare_words, compare_immediate}
use Rattle.order_formed_proof.proofs.Formed.{Formed, one, ◌then◌}
use Rattle.order_formed_proof.proofs.Codes.{idiv, idivm, movi, movim, add, sub, imul, mov, addrm, addmr, subrm, submr, imulrm, imulmr, movs, movl, cmp, cmprm, cmpmr, cmpi, cmpim, cqo, Held, leal}
use Rattle.order_formed_proof.proofs.Choices.{either, on_operand, offset_fits, stack, temp, return1, return2}

module _ (G : Shape) (sup : Supported G) where
  -- an operation by its number
  register_register_lem : (n : ℕ) {r a : ℕ} → r < 16 → a < 16 → Formed (register_register n r a)
  register_register_lem n h k = either (eqb n 0) (one (add h k)) (either (eqb n 1) (one (sub h k)) (one (imul h k)))

  register_spill_lem : (n : ℕ) {r o : ℕ} → r < 16 → o < 2 ^ 64 → Formed (register_spill n r o)
  register_spill_lem n h f = either (eqb n 0) (one (addrm h stack f)) (either (eqb n 1) (one (subrm h stack f)) (one (imulrm h stack f)))

  spill_register_lem : (n : ℕ) {r o : ℕ} → r < 16 → o < 2 ^ 64 → Formed (spill_register n o r)
  spill_register_lem n h f = either (eqb n 0) (one (addmr stack h f)) (either (eqb n 1) (one (submr stack h f)) (one (imulmr stack h f)))

  move_from_lem : (w : ℕ) {r : ℕ} → r < 16 → Formed (move_from G w r)
  move_from_lem w h = on_operand w (λ l. one (mov l h)) (λ l. one (movs h stack (offset_fits G sup w)))

  move_to_lem : {r : ℕ} (w : ℕ) → r < 16 → Formed (move_to G r w)
  move_to_lem w h = on_operand w (λ l. one (mov h l)) (λ l. one (movl h stack (offset_fits G sup w)))

  to_register_lem : (n : ℕ) {r : ℕ} (w : ℕ) → r < 16 → Formed (to_register G n r w)
  to_register_lem n w h = on_operand w (λ l. register_register_lem n h l) (λ l. register_spill_lem n h (offset_fits G sup w))

  to_spill_lem : (n w x : ℕ) → Formed (to_spill G n w x)
  to_spill_lem n w x =
      on_operand x (λ l. spill_register_lem n l (offset_fits G sup w)) (λ l. one (movl temp stack (offset_fits G sup x)) then spill_register_lem n temp (offset_fits G sup w))

  into_register_lem : (n : ℕ) {r : ℕ} (x y : ℕ) → r < 16 → Formed (into_register G n r x y)
  into_register_lem n x y h = move_to_lem x h then to_register_lem n y h

  through_temp_lem : (n t x y : ℕ) → Formed (through_temp G n t x y)
  through_temp_lem n t x y = into_register_lem n x y temp then move_from_lem t temp

  formed_commutative : (n t x y : ℕ) → Formed (commutative G n t x y)
  formed_commutative n t x y =
      on_operand t
      (λ l. either (eqb t x) (to_register_lem n y l) (either (eqb t y) (to_register_lem n x l) (into_register_lem n x y l)))
      (λ l. either (eqb t x) (to_spill_lem n t y) (either (eqb t y) (to_spill_lem n t x) (through_temp_lem n t x y)))

  formed_subtraction : (t x y : ℕ) → Formed (subtraction G t x y)
  formed_subtraction t x y =
      on_operand t
      (λ l. either (eqb t x) (to_register_lem 1 y l) (either (eqb t y) (through_temp_lem 1 t x y) (into_register_lem 1 x y l)))
      (λ l. either (eqb t x) (to_spill_lem 1 t y) (through_temp_lem 1 t x y))

  divide_by_lem : (w : ℕ) → Formed (divide_by G w)
  divide_by_lem w = one cqo then on_operand w (λ l. either (eqb w RETURN2) (one (idiv temp)) (one (idiv l))) (λ l. one (idivm stack (offset_fits G sup w)))

  divide_kept_lem : (t x y : ℕ) → Formed (divide_kept G t x y)
  divide_kept_lem t x y = one (mov temp return2) then move_from_lem t return1 then move_to_lem x return1 then divide_by_lem y

  formed_restored : (t : ℕ) → Formed (restored G t)
  formed_restored t = move_to_lem t return1 then move_from_lem t return2 then one (mov return2 temp)

  formed_quotient : (t x y : ℕ) → Formed (div_tree G t x y)
  formed_quotient t x y = divide_kept_lem t x y then one (mov return2 return1) then formed_restored t

  formed_remainder : (t x y : ℕ) → Formed (rem_tree G t x y)
  formed_remainder t x y = divide_kept_lem t x y then formed_restored t

  pub formed_arithmetic : (o : Calculation) (t x y : ℕ) → Formed (arithmetic G o t x y)
  formed_arithmetic Add t x y = formed_commutative 0 t x y
  formed_arithmetic Sub t x y = formed_subtraction t x y
  formed_arithmetic Mul t x y = formed_commutative 2 t x y
  formed_arithmetic Div t x y = formed_quotient t x y
  formed_arithmetic Rem t x y = formed_remainder t x y

  pub formed_immediate : (w : ℕ) {value : ℕ} → value < 2 ^ 64 → Formed (load_immediate G w value)
  formed_immediate w q = on_operand w (λ l. one (movi l q)) (λ l. one (movim stack (offset_fits G sup w) q))

  pub formed_moved : (w x : ℕ) → Formed (mov_tree G w x)
  formed_moved w x = on_operand x (λ l. move_from_lem w l) (λ l. on_operand w (λ k. move_to_lem x k) (λ k. move_to_lem x temp then move_from_lem w temp))

  pub formed_compare : (x y : ℕ) → Formed (compare_words G x y)
  formed_compare x y =
      on_operand x
      (λ l. on_operand y (λ k. one (cmp l k)) (λ k. one (cmprm l stack (offset_fits G sup y))))
      (λ l. on_operand y (λ k. one (cmpmr stack k (offset_fits G sup x))) (λ k. one (movl temp stack (offset_fits G sup x)) then one (cmprm temp stack (offset_fits G sup y))))

  pub formed_compare_immediate : (w : ℕ) {value : ℕ} → value < 2 ^ 64 → Formed (compare_immediate G w value)
  formed_compare_immediate w q = on_operand w (λ l. one (cmpi l q)) (λ l. one (cmpim stack (offset_fits G sup w) q))

  pub formed_load_label : (w : ℕ) {l : ℕ} → Held l → Formed (load_label G w l)
  formed_load_label w h = on_operand w (λ r. one (leal h r)) (λ r. one (leal h temp) then one (movs temp stack (offset_fits G sup w)))
