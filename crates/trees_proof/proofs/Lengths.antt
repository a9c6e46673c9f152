-- A tree that is done on a heap is done alike on a longer one: only whether an address is outside depends on the heap's length.
use Rattle.std.specs.Prelude.{None, Some, Option}
use Prim.Native.Nat.{ℕ, ◌-◌, ◌/◌, ◌%◌, ◌≤◌, ◌<◌}
use mathlib.Core.Path.{◌≡◌, refl, sym, ◌∙◌, ap}
use mathlib.Core.Bool.{Bool, true, false, not, ◌&&◌, cond}
use native.Mathlib.Decide.{dec_le}
use native.Mathlib.Omega.{arith}
use lib.Dec.{leb, ltb, eqb}
use borrow.Author.Tests.{ltb-true, lt-ltb}
use Rattle.records.specs.declared.code.Code.{Code}
use Rattle.records.specs.declared.code.Code.TheVariants.{ADD, ADDRM, ADDMR, ADDI, ADDIM, SUB, SUBRM, SUBMR, SUBI, IMUL, IMULRM, IMULMR, IDIV, IDIVM, CQO, JMP, JMPL, JMPLN, LEAL, MOV, MOVS, MOVL, MOVI, MOVIM, CMP, CMPRM, CMPMR, CMPI, CMPIM, JEL, JNEL, JLL, JLEL, JGL, JGEL, PUSH, POP, CALL, RET, LAB, NOEXECSTACK, TEXT, GLOBAL, EXTERN}
use Rattle.word.specs.Words.{sum, difference, product, divides, less}
use Rattle.trees.specs.Tree.{Tree, nop, leaf, seq, skip_if_zero, if_zero}
use Rattle.machine_step.specs.declared.memory.Place.{Place}
use Rattle.machine_step.specs.declared.memory.Place.TheVariants.{Stack, Heap, Nowhere}
use Rattle.machine_step.specs.View.{View, put_reg, put_stk, put_mem}
use Rattle.machine_step.specs.Memory.{stack_end, heap_start, place_of, word_in, put_at, Operand, register, memory, immediate, value_of, assigned}
use Rattle.machine_step.specs.Step.{Config, config, dropped, Outcome, on_word, on_state, on_pair, calculate, move, compare, divide, branch, is_print_name, step}
use Rattle.trees_proof.specs.Evaluation.{Evaluated, done, faulted, and_then, evaluated, on_equal, evaluate}

-- a state beside a heap of so many words, all else the same
abbrev pub beside : ℕ → View → View
beside n s = record { reg = s.reg; stk = s.stk; mem = s.mem; depth = s.depth; size = n }

-- a configuration beside a heap of so many words, all else the same
abbrev pub resized : ℕ → Config → Config
resized n c = config (beside n c.state) c.pair c.calls

-- an address that has a place beside the shorter heap has the same one beside the longer
data Kept : Place → Place → Type 0 where
  on_stack : {i : ℕ} → Kept (Stack i) (Stack i)
  on_heap : {i : ℕ} → Kept (Heap i) (Heap i)
  outside : {p : Place} → Kept Nowhere p

-- where the first is done, with a heap of m words, the second is done alike beside n words
data Alike (m n : ℕ) : Evaluated → Evaluated → Type 0 where
  both_done : {d : Config} → d.state.size ≡ m → Alike m n (done d) (done (resized n d))
  fails : {d : Config} {o : Evaluated} → Alike m n (faulted d) o

-- the same choice between parts that are related
either : {A : Type 0} (R : A → A → Type 0) (b : Bool) {x x' y y' : A} → R x x' → R y y' → R (cond b x y) (cond b x' y')
either R true e f = e
either R false e f = f

module _ (m n : ℕ) (h : m ≤ n) where
  -- two outcomes, as a tree goes on with them
  abbrev Follows : Outcome → Outcome → Type 0
  Follows o p = Alike m n (evaluated o) (evaluated p)

  module _ (c : Config) (e : c.state.size ≡ m) where
    heap_kept : (i : ℕ) (b t : Bool) → ltb i c.state.size ≡ t → Kept (cond (b && t) (Heap i) Nowhere) (cond (b && ltb i n) (Heap i) Nowhere)
    heap_kept i true true f = let l : i < n = omega (arith, ltb-true i c.state.size f) in rw lt-ltb on_heap
    heap_kept i true false f = outside
    heap_kept i false t f = outside

    place_kept : (a : ℕ) → Kept (place_of c.state.depth c.state.size a) (place_of c.state.depth n a)
    unfolding place_of
    place_kept a =
        either Kept (eqb (a % 8) 0)
        (either Kept (leb stack_end a) outside
        (either Kept (ltb ((1099511627768 - a) / 8) c.state.depth) on_stack (heap_kept ((a - heap_start) / 8) (leb heap_start a) _ refl)))
        outside

    -- a word read from a place or an operand, and what goes on with it
    module _ (k k' : ℕ → Outcome) (g : (w : ℕ) → Follows (k w) (k' w)) where
      loads : {p q : Place} → Kept p q → Follows (on_word c (word_in c.state.stk c.state.mem p) k) (on_word (resized n c) (word_in c.state.stk c.state.mem q) k')
      loads (on_stack {i = i}) = g (c.state.stk i)
      loads (on_heap {i = i}) = g (c.state.mem i)
      loads outside = fails

      reads : (o : Operand) → Follows (on_word c (value_of c.state o) k) (on_word (resized n c) (value_of (beside n c.state) o) k')
      reads (register a) = g (c.state.reg a)
      reads (memory a offset) = loads (place_kept (sum (c.state.reg a) offset))
      reads (immediate v) = g v

    -- a word written to a place or an operand, and what goes on with the state
    module _ (k k' : View → Outcome) (g : (s : View) → s.size ≡ m → Follows (k s) (k' (beside n s))) where
      stores : (s : View) → s.size ≡ m → {p q : Place} → Kept p q → (v : ℕ) → Follows (on_state c (put_at s p v) k) (on_state (resized n c) (put_at (beside n s) q v) k')
      stores s f (on_stack {i = i}) v = g (put_stk s i v) f
      stores s f (on_heap {i = i}) v = g (put_mem s i v) f
      stores s f outside v = fails

      writes : (o : Operand) (v : ℕ) → Follows (on_state c (assigned c.state o v) k) (on_state (resized n c) (assigned (beside n c.state) o v) k')
      writes (register a) v = g (put_reg c.state a v) e
      writes (memory a offset) v = stores c.state e (place_kept (sum (c.state.reg a) offset)) v
      writes (immediate w) v = fails

    pairs : (q : Option (ℕ × ℕ)) (k k' : ℕ → ℕ → Outcome) → ((x y : ℕ) → Follows (k x y) (k' x y)) → Follows (on_pair c q k) (on_pair (resized n c) q k')
    pairs (Some (x, y)) k k' g = g x y
    pairs None k k' g = fails

    arithmetic_follows : (f : ℕ → ℕ → ℕ) (dest src : Operand) → Follows (calculate f dest src c) (calculate f dest src (resized n c))
    arithmetic_follows f dest src = reads _ _ (λ y. reads _ _ (λ x. writes _ _ (λ s r. both_done r) dest (f x y)) dest) src

    move_follows : (dest src : Operand) → Follows (move dest src c) (move dest src (resized n c))
    move_follows dest src = reads _ _ (λ y. writes _ _ (λ s r. both_done r) dest y) src

    compare_follows : (dest src : Operand) → Follows (compare dest src c) (compare dest src (resized n c))
    compare_follows dest src = reads _ _ (λ y. reads _ _ (λ x. both_done e) dest) src

    divide_follows : (src : Operand) → Follows (divide src c) (divide src (resized n c))
    divide_follows src = reads _ _ (λ d. either Follows (divides (c.state.reg 5) (c.state.reg 4) d) (both_done e) fails) src

    branch_follows : (holds : ℕ → ℕ → Bool) (label : ℕ) → Follows (branch holds label c) (branch holds label (resized n c))
    branch_follows holds label = pairs c.pair _ _ (λ x y. either Follows (holds x y) fails (both_done e))

    step_follows : (words : ℕ → ℕ) (x : Code) → Follows (step words x c) (step words x (resized n c))
    unfolding step
    step_follows words (ADD a b) = arithmetic_follows sum (register a) (register b)
    step_follows words (ADDRM a b offset) = arithmetic_follows sum (register a) (memory b offset)
    step_follows words (ADDMR a offset b) = arithmetic_follows sum (memory a offset) (register b)
    step_follows words (ADDI a value) = arithmetic_follows sum (register a) (immediate value)
    step_follows words (ADDIM a offset value) = arithmetic_follows sum (memory a offset) (immediate value)
    step_follows words (SUB a b) = arithmetic_follows difference (register a) (register b)
    step_follows words (SUBRM a b offset) = arithmetic_follows difference (register a) (memory b offset)
    step_follows words (SUBMR a offset b) = arithmetic_follows difference (memory a offset) (register b)
    step_follows words (SUBI a value) = arithmetic_follows difference (register a) (immediate value)
    step_follows words (IMUL a b) = arithmetic_follows product (register a) (register b)
    step_follows words (IMULRM a b offset) = arithmetic_follows product (register a) (memory b offset)
    step_follows words (IMULMR a offset b) = arithmetic_follows product (memory a offset) (register b)
    step_follows words (IDIV a) = divide_follows (register a)
    step_follows words (IDIVM a offset) = divide_follows (memory a offset)
    step_follows words CQO = both_done e
    step_follows words (JMP a) = fails
    step_follows words (JMPL label) = fails
    step_follows words (JMPLN label) = fails
    step_follows words (LEAL a label) = fails
    step_follows words (MOV a b) = move_follows (register a) (register b)
    step_follows words (MOVS a b offset) = move_follows (memory b offset) (register a)
    step_follows words (MOVL a b offset) = move_follows (register a) (memory b offset)
    step_follows words (MOVI a value) = move_follows (register a) (immediate value)
    step_follows words (MOVIM a offset value) = move_follows (memory a offset) (immediate value)
    step_follows words (CMP a b) = compare_follows (register a) (register b)
    step_follows words (CMPRM a b offset) = compare_follows (register a) (memory b offset)
    step_follows words (CMPMR a offset b) = compare_follows (memory a offset) (register b)
    step_follows words (CMPI a value) = compare_follows (register a) (immediate value)
    step_follows words (CMPIM a offset value) = compare_follows (memory a offset) (immediate value)
    step_follows words (JEL label) = branch_follows eqb label
    step_follows words (JNEL label) = branch_follows (λ x y. not (eqb x y)) label
    step_follows words (JLL label) = branch_follows less label
    step_follows words (JLEL label) = branch_follows (λ x y. not (less y x)) label
    step_follows words (JGL label) = branch_follows (λ x y. less y x) label
    step_follows words (JGEL label) = branch_follows (λ x y. not (less x y)) label
    step_follows words (PUSH a) = stores _ _ (λ s r. both_done r) _ e (place_kept _) _
    step_follows words (POP a) = loads _ _ (λ w. both_done e) (place_kept _)
    step_follows words (CALL label) = either Follows (is_print_name label && eqb (c.state.reg 0 % 16) 0) (both_done e) fails
    step_follows words RET = either Follows (eqb (c.state.reg 0) 1099511627768) fails fails
    step_follows words (LAB label) = both_done e
    step_follows words NOEXECSTACK = both_done e
    step_follows words TEXT = both_done e
    step_follows words (GLOBAL label) = both_done e
    step_follows words (EXTERN label) = both_done e

  joined : {o o' : Evaluated} {k : Config → Evaluated} → Alike m n o o' → ((d : Config) → d.state.size ≡ m → Alike m n (k d) (k (resized n d)))
      → Alike m n (and_then o k) (and_then o' k)
  joined (both_done {d = d} r) g = g d r
  joined fails g = fails

  chosen : (d : Config) (q : Option (ℕ × ℕ)) {a a' b b' : Evaluated} → Alike m n a a' → Alike m n b b' → Alike m n (on_equal d q a b) (on_equal (resized n d) q a' b')
  chosen d (Some (x, y)) e f = either (Alike m n) (eqb x y) e f
  chosen d None e f = fails

  -- a part, and the mark after it
  marked : {o o' : Evaluated} → Alike m n o o' → Alike m n (and_then o (λ f. done (dropped f))) (and_then o' (λ f. done (dropped f)))
  marked e = joined e (λ f r. both_done r)

  evaluate_alike : (words : ℕ → ℕ) (t : Tree) (c : Config) → c.state.size ≡ m → Alike m n (evaluate words t c) (evaluate words t (resized n c))
  evaluate_alike words nop c e = both_done e
  evaluate_alike words (leaf x p) c e = step_follows c e words x
  evaluate_alike words (seq t u) c e = joined (evaluate_alike words t c e) (λ d r. evaluate_alike words u d r)
  evaluate_alike words (skip_if_zero x p t) c e =
      joined (step_follows c e words x) (λ d r. chosen d d.pair (both_done r) (marked (evaluate_alike words t (dropped d) r)))
  evaluate_alike words (if_zero x p t u) c e =
      joined (step_follows c e words x) (λ d r. chosen d d.pair (marked (evaluate_alike words t (dropped d) r)) (marked (evaluate_alike words u (dropped d) r)))

told : {m n : ℕ} {d : Config} {o : Evaluated} → Alike m n (done d) o → (d.state.size ≡ m) × (o ≡ done (resized n d))
told (both_done r) = (r, refl)

-- a tree that is done leaves the heap's length, and is done alike beside a longer heap
pub evaluate_longer : (words : ℕ → ℕ) (t : Tree) (n : ℕ) (c d : Config) → c.state.size ≤ n → evaluate words t c ≡ done d
    → (d.state.size ≡ c.state.size) × (evaluate words t (resized n c) ≡ done (resized n d))
evaluate_longer words t n c d h e = told (rw e at (evaluate_alike c.state.size n h words t c refl))

done_to : Config → Evaluated → Config
done_to c (done d) = d
done_to c (faulted d) = c

-- and what it leaves beside any two heaps on which it is done is the same
pub evaluate_sizes : (words : ℕ → ℕ) (t : Tree) (n : ℕ) (c d e : Config) → evaluate words t c ≡ done d → evaluate words t (resized n c) ≡ done e → e ≡ resized n d
unfolding done_to
evaluate_sizes words t n c d e p q = by (dec_le c.state.size n)
  where
    by : Dec (c.state.size ≤ n) → e ≡ resized n d
    by (yes h) = ap (done_to c) (sym q ∙ (evaluate_longer words t n c d h p).1)
    by (no h) =
        let r = evaluate_longer words t c.state.size (resized n c) e (omega arith) q in
        let s : d ≡ resized c.state.size e = ap (done_to c) (sym p ∙ r.1) in
        rw (s, ← r.0)
