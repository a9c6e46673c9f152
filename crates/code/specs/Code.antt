-- What the operations of code.rs write: straight-line ones as trees, jumps as lists of records.
-- From code.rs, function by function. An operand is a word: below 16 a register, else a spill, which goes by TEMP where no instruction takes it.
use Rattle.std.specs.Prelude.{ℕ, refl, cond, List, [], ◌∷◌, ◌++◌, ltb, eqb}
use Rattle.records.specs.declared.code.Code.{Code}
use Rattle.records.specs.declared.code.Code.TheVariants.{ADD, ADDRM, ADDMR, ADDI, SUB, SUBRM, SUBMR, IMUL, IMULRM, IMULMR, IDIV, IDIVM, CQO, JMP, LEAL, MOV, MOVS, MOVL, MOVI, MOVIM, CMP, CMPRM, CMPMR, CMPI, CMPIM, JEL, JNEL, JLL, JLEL, JGL, JGEL}
use Rattle.records.specs.declared.order.Calculation.{Calculation}
use Rattle.records.specs.declared.order.Calculation.TheVariants.{Add, Sub, Mul, Div, Rem}
use Rattle.records.specs.Codes.{fields_of}
use Rattle.trees.specs.Tree.{Tree, leaf, seq, flat}
use Rattle.layout.specs.declared.config.Shape.{Shape}
use Rattle.layout.specs.Config.{STACK, TEMP, RETURN1, RETURN2, stack_offset}
use Rattle.code.specs.declared.emitters.Condition.{Condition}
use Rattle.code.specs.declared.emitters.Condition.TheVariants.{Equal, NotEqual, Less, LessOrEqual, Greater, GreaterOrEqual}

-- one of three by an operation's number: 0 add, 1 sub, 2 mul
abbrev pub by_number : {A : Type 0} → ℕ → A → A → A → A
by_number n add sub mul = cond (eqb n 0) add (cond (eqb n 1) sub mul)

-- an operation on two registers, on a register and a spill, on a spill and a register
abbrev pub register_register : ℕ → ℕ → ℕ → Tree
register_register n r a = by_number n (leaf (ADD r a) refl) (leaf (SUB r a) refl) (leaf (IMUL r a) refl)

abbrev pub register_spill : ℕ → ℕ → ℕ → Tree
register_spill n r offset =
    by_number n (leaf (ADDRM r STACK offset) refl) (leaf (SUBRM r STACK offset) refl) (leaf (IMULRM r STACK offset) refl)

abbrev pub spill_register : ℕ → ℕ → ℕ → Tree
spill_register n offset r =
    by_number n (leaf (ADDMR STACK offset r) refl) (leaf (SUBMR STACK offset r) refl) (leaf (IMULMR STACK offset r) refl)

-- the conditional jumps
abbrev pub jump_if : Condition → ℕ → Code
jump_if Equal l = JEL l
jump_if NotEqual l = JNEL l
jump_if Less l = JLL l
jump_if LessOrEqual l = JLEL l
jump_if Greater l = JGL l
jump_if GreaterOrEqual l = JGEL l

abbrev pub condition_number : Condition → ℕ
condition_number k = (fields_of (jump_if k 0)).code

module _ (g : Shape) where
  -- move_from_register, move_to_register
  abbrev pub move_from : ℕ → ℕ → Tree
  move_from w r = cond (ltb w 16) (leaf (MOV w r) refl) (leaf (MOVS r STACK (stack_offset g w)) refl)

  abbrev pub move_to : ℕ → ℕ → Tree
  move_to r w = cond (ltb w 16) (leaf (MOV r w) refl) (leaf (MOVL r STACK (stack_offset g w)) refl)

  -- add_to_register, sub_to_register, mul_to_register
  abbrev pub to_register : ℕ → ℕ → ℕ → Tree
  to_register n r w = cond (ltb w 16) (register_register n r w) (register_spill n r (stack_offset g w))

  -- add_to_spill, sub_to_spill, mul_to_spill
  abbrev pub to_spill : ℕ → ℕ → ℕ → Tree
  to_spill n w x =
      cond (ltb x 16)
      (spill_register n (stack_offset g w) x)
      (seq (leaf (MOVL TEMP STACK (stack_offset g x)) refl) (spill_register n (stack_offset g w) TEMP))

  -- the first source to a register, and the operation on it with the second
  abbrev pub into_register : ℕ → ℕ → ℕ → ℕ → Tree
  into_register n r x y = seq (move_to r x) (to_register n r y)

  -- the same in TEMP, and TEMP to the target
  abbrev pub through_temp : ℕ → ℕ → ℕ → ℕ → Tree
  through_temp n t x y = seq (into_register n TEMP x y) (move_from t TEMP)

  -- op_commutative
  abbrev pub commutative : ℕ → ℕ → ℕ → ℕ → Tree
  commutative n t x y =
      cond (ltb t 16)
      (cond (eqb t x) (to_register n t y) (cond (eqb t y) (to_register n t x) (into_register n t x y)))
      (cond (eqb t x) (to_spill n t y) (cond (eqb t y) (to_spill n t x) (through_temp n t x y)))

  -- sub
  abbrev pub subtraction : ℕ → ℕ → ℕ → Tree
  subtraction t x y =
      cond (ltb t 16)
      (cond (eqb t x) (to_register 1 t y) (cond (eqb t y) (through_temp 1 t x y) (into_register 1 t x y)))
      (cond (eqb t x) (to_spill 1 t y) (through_temp 1 t x y))

  -- div of a divisor: where that is RETURN2, its value is in TEMP
  abbrev pub divide_by : ℕ → Tree
  divide_by w =
      seq (leaf CQO refl)
      (cond (ltb w 16)
      (cond (eqb w RETURN2) (leaf (IDIV TEMP) refl) (leaf (IDIV w) refl))
      (leaf (IDIVM STACK (stack_offset g w)) refl))

  -- RETURN2 kept in TEMP and RETURN1 in the target, the dividend to RETURN1, and the division
  abbrev pub divide_kept : ℕ → ℕ → ℕ → Tree
  divide_kept t x y = seq (leaf (MOV TEMP RETURN2) refl) (seq (move_from t RETURN1) (seq (move_to RETURN1 x) (divide_by y)))

  -- RETURN1 back from the target, the result from RETURN2 to the target, RETURN2 back from TEMP
  abbrev pub restored : ℕ → Tree
  restored t = seq (move_to RETURN1 t) (seq (move_from t RETURN2) (leaf (MOV RETURN2 TEMP) refl))

  -- Instructions::div and rem: the quotient is moved to RETURN2, the remainder is there
  abbrev pub div_tree : ℕ → ℕ → ℕ → Tree
  div_tree t x y = seq (divide_kept t x y) (seq (leaf (MOV RETURN2 RETURN1) refl) (restored t))

  abbrev pub rem_tree : ℕ → ℕ → ℕ → Tree
  rem_tree t x y = seq (divide_kept t x y) (restored t)

  abbrev pub arithmetic : Calculation → ℕ → ℕ → ℕ → Tree
  arithmetic Add t x y = commutative 0 t x y
  arithmetic Sub t x y = subtraction t x y
  arithmetic Mul t x y = commutative 2 t x y
  arithmetic Div t x y = div_tree t x y
  arithmetic Rem t x y = rem_tree t x y

  abbrev pub compare_words : ℕ → ℕ → Tree
  compare_words x y =
      cond (ltb x 16)
      (cond (ltb y 16) (leaf (CMP x y) refl) (leaf (CMPRM x STACK (stack_offset g y)) refl))
      (cond (ltb y 16)
      (leaf (CMPMR STACK (stack_offset g x) y) refl)
      (seq (leaf (MOVL TEMP STACK (stack_offset g x)) refl) (leaf (CMPRM TEMP STACK (stack_offset g y)) refl)))

  abbrev pub compare_immediate : ℕ → ℕ → Tree
  compare_immediate w value = cond (ltb w 16) (leaf (CMPI w value) refl) (leaf (CMPIM STACK (stack_offset g w) value) refl)

  abbrev pub load_immediate : ℕ → ℕ → Tree
  load_immediate w value = cond (ltb w 16) (leaf (MOVI w value) refl) (leaf (MOVIM STACK (stack_offset g w) value) refl)

  abbrev pub load_label : ℕ → ℕ → Tree
  load_label w l =
      cond (ltb w 16) (leaf (LEAL w l) refl) (seq (leaf (LEAL TEMP l) refl) (leaf (MOVS TEMP STACK (stack_offset g w)) refl))

  abbrev pub mov_tree : ℕ → ℕ → Tree
  mov_tree w x = cond (ltb x 16) (move_from w x) (cond (ltb w 16) (move_to w x) (seq (move_to TEMP x) (move_from w TEMP)))

  abbrev pub jump_to : ℕ → List Code
  jump_to w = cond (ltb w 16) (JMP w ∷ []) (MOVL TEMP STACK (stack_offset g w) ∷ JMP TEMP ∷ [])

  abbrev pub add_and_jump : ℕ → ℕ → List Code
  add_and_jump w value =
      cond (ltb w 16) (ADDI w value ∷ JMP w ∷ []) (MOVL TEMP STACK (stack_offset g w) ∷ ADDI TEMP value ∷ JMP TEMP ∷ [])

  -- jump_label_if_equal and the five others, of two operands and of one with zero
  abbrev pub jump_if_words : Condition → ℕ → ℕ → ℕ → List Code
  jump_if_words k x y l = flat (compare_words x y) 0 ++ (jump_if k l ∷ [])

  abbrev pub jump_if_zero : Condition → ℕ → ℕ → List Code
  jump_if_zero k w l = flat (compare_immediate w 0) 0 ++ (jump_if k l ∷ [])
