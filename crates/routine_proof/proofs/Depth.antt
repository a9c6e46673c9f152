-- No instruction changes how deep the stack is, so that a body comes to the cleanup with the stack that it was entered with.
use Rattle.std.specs.Prelude.{None, Some, Ok, Err, Option}
use Prim.Native.Nat.{ℕ, zero, suc, ◌+◌, ◌%◌}
use mathlib.Core.Path.{◌≡◌, refl, sym, ap, ◌∙◌}
use mathlib.Core.Bool.{Bool, not, ◌&&◌}
use mathlib.Core.List.{List}
use mathlib.Core.Option.{Option as Element, none, some}
use lib.Dec.{eqb}
use lib.ListN.{get_elem?}
use Rattle.records.specs.declared.code.Code.{Code}
use Rattle.records.specs.declared.code.Code.TheVariants.{ADD, ADDRM, ADDMR, ADDI, ADDIM, SUB, SUBRM, SUBMR, SUBI, IMUL, IMULRM, IMULMR, IDIV, IDIVM, CQO, JMP, JMPL, JMPLN, LEAL, MOV, MOVS, MOVL, MOVI, MOVIM, CMP, CMPRM, CMPMR, CMPI, CMPIM, JEL, JNEL, JLL, JLEL, JGL, JGEL, PUSH, POP, CALL, RET, LAB, NOEXECSTACK, TEXT, GLOBAL, EXTERN}
use Rattle.records.proofs.Conditions.{both_ways}
use Rattle.word.specs.Words.{sum, difference, product, divides, less}
use Rattle.machine_step.specs.declared.memory.Place.{Place}
use Rattle.machine_step.specs.declared.memory.Place.TheVariants.{Stack, Heap, Nowhere}
use Rattle.machine_step.specs.View.{View, put_reg}
use Rattle.machine_step.specs.Memory.{Operand, register, memory, immediate, place_of, put_at, load, store, value_of, assigned}
use Rattle.machine_step.specs.Step.{Config, Outcome, next, jump, end, fault, on_word, on_state, on_pair, is_print_name, calculate, move, compare, divide, branch, push, pop, call, return, step}
use Rattle.machine.specs.declared.run.Stop.TheVariants.{Limit}
use Rattle.machine.specs.Run.{Done, done, on_record, on_found, find, follow, runs}
use Rattle.trees_proof.specs.Claims.{RunsTo}

abbrev Deep : ℕ → Outcome → Type 0
Deep n (next d) = d.state.depth ≡ n
Deep n (jump label d) = d.state.depth ≡ n
Deep n (end d) = d.state.depth ≡ n
Deep n (fault d) = d.state.depth ≡ n

abbrev DeepView : ℕ → Option View → Type 0
DeepView n (Some s) = s.depth ≡ n
DeepView n None = Unit {0}

on_word_lem : (c : Config) (l : Option ℕ) (k : ℕ → Outcome) → ((w : ℕ) → Deep c.state.depth (k w)) → Deep c.state.depth (on_word c l k)
on_word_lem c (Some w) k h = h w
on_word_lem c None k h = refl

on_state_lem : (c : Config) (o : Option View) (k : View → Outcome) → DeepView c.state.depth o → ((s : View) → s.depth ≡ c.state.depth → Deep c.state.depth (k s)) → Deep c.state.depth (on_state c o k)
on_state_lem c (Some s) k e h = h s e
on_state_lem c None k e h = refl

on_pair_lem : (c : Config) (q : Option (ℕ × ℕ)) (k : ℕ → ℕ → Outcome) → ((x y : ℕ) → Deep c.state.depth (k x y)) → Deep c.state.depth (on_pair c q k)
on_pair_lem c (Some (x, y)) k h = h x y
on_pair_lem c None k h = refl

put_deep : (s : View) (p : Place) (v : ℕ) → DeepView s.depth (put_at s p v)
put_deep s (Stack i) v = refl
put_deep s (Heap i) v = refl
put_deep s Nowhere v = tt

assigned_deep : (s : View) (o : Operand) (v : ℕ) → DeepView s.depth (assigned s o v)
assigned_deep s (register a) v = refl
assigned_deep s (memory a offset) v = put_deep s (place_of s.depth s.size (sum (s.reg a) offset)) v
assigned_deep s (immediate w) v = tt

arithmetic_deep : (f : ℕ → ℕ → ℕ) (dest src : Operand) (c : Config) → Deep c.state.depth (calculate f dest src c)
arithmetic_deep f dest src c =
    on_word_lem c (value_of c.state src) _ (λ y. on_word_lem c (value_of c.state dest) _ (λ x. on_state_lem c (assigned c.state dest (f x y)) _ (assigned_deep c.state dest (f x y)) (λ s e. e)))

move_deep : (dest src : Operand) (c : Config) → Deep c.state.depth (move dest src c)
move_deep dest src c = on_word_lem c (value_of c.state src) _ (λ y. on_state_lem c (assigned c.state dest y) _ (assigned_deep c.state dest y) (λ s e. e))

compare_deep : (dest src : Operand) (c : Config) → Deep c.state.depth (compare dest src c)
compare_deep dest src c = on_word_lem c (value_of c.state src) _ (λ y. on_word_lem c (value_of c.state dest) _ (λ x. refl))

divide_deep : (src : Operand) (c : Config) → Deep c.state.depth (divide src c)
divide_deep src c = on_word_lem c (value_of c.state src) _ (λ d. both_ways (Deep c.state.depth) (divides (c.state.reg 5) (c.state.reg 4) d) refl refl)

branch_deep : (holds : ℕ → ℕ → Bool) (label : ℕ) (c : Config) → Deep c.state.depth (branch holds label c)
branch_deep holds label c = on_pair_lem c c.pair _ (λ x y. both_ways (Deep c.state.depth) (holds x y) refl refl)

push_deep : (a : ℕ) (c : Config) → Deep c.state.depth (push a c)
push_deep a c =
    let s : View = put_reg c.state 0 (difference (c.state.reg 0) 8) in
    let x : ℕ = difference (c.state.reg 0) 8 in
    on_state_lem c (store s x (c.state.reg a)) _ (put_deep s (place_of s.depth s.size x) (c.state.reg a)) (λ t e. e)

pop_deep : (a : ℕ) (c : Config) → Deep c.state.depth (pop a c)
pop_deep a c = on_word_lem c (load c.state (c.state.reg 0)) _ (λ w. refl)

call_deep : (words : ℕ → ℕ) (label : ℕ) (c : Config) → Deep c.state.depth (call words label c)
call_deep words label c = both_ways (Deep c.state.depth) (is_print_name label && eqb (c.state.reg 0 % 16) 0) refl refl

return_deep : (c : Config) → Deep c.state.depth (return c)
return_deep c = both_ways (Deep c.state.depth) (eqb (c.state.reg 0) 1099511627768) refl refl

step_deep : (words : ℕ → ℕ) (x : Code) (c : Config) → Deep c.state.depth (step words x c)
unfolding step
step_deep words (ADD a b) c = arithmetic_deep sum (register a) (register b) c
step_deep words (ADDRM a b offset) c = arithmetic_deep sum (register a) (memory b offset) c
step_deep words (ADDMR a offset b) c = arithmetic_deep sum (memory a offset) (register b) c
step_deep words (ADDI a value) c = arithmetic_deep sum (register a) (immediate value) c
step_deep words (ADDIM a offset value) c = arithmetic_deep sum (memory a offset) (immediate value) c
step_deep words (SUB a b) c = arithmetic_deep difference (register a) (register b) c
step_deep words (SUBRM a b offset) c = arithmetic_deep difference (register a) (memory b offset) c
step_deep words (SUBMR a offset b) c = arithmetic_deep difference (memory a offset) (register b) c
step_deep words (SUBI a value) c = arithmetic_deep difference (register a) (immediate value) c
step_deep words (IMUL a b) c = arithmetic_deep product (register a) (register b) c
step_deep words (IMULRM a b offset) c = arithmetic_deep product (register a) (memory b offset) c
step_deep words (IMULMR a offset b) c = arithmetic_deep product (memory a offset) (register b) c
step_deep words (IDIV a) c = divide_deep (register a) c
step_deep words (IDIVM a offset) c = divide_deep (memory a offset) c
step_deep words CQO c = refl
step_deep words (JMP a) c = refl
step_deep words (JMPL label) c = refl
step_deep words (JMPLN label) c = refl
step_deep words (LEAL a label) c = refl
step_deep words (MOV a b) c = move_deep (register a) (register b) c
step_deep words (MOVS a b offset) c = move_deep (memory b offset) (register a) c
step_deep words (MOVL a b offset) c = move_deep (register a) (memory b offset) c
step_deep words (MOVI a value) c = move_deep (register a) (immediate value) c
step_deep words (MOVIM a offset value) c = move_deep (memory a offset) (immediate value) c
step_deep words (CMP a b) c = compare_deep (register a) (register b) c
step_deep words (CMPRM a b offset) c = compare_deep (register a) (memory b offset) c
step_deep words (CMPMR a offset b) c = compare_deep (memory a offset) (register b) c
step_deep words (CMPI a value) c = compare_deep (register a) (immediate value) c
step_deep words (CMPIM a offset value) c = compare_deep (memory a offset) (immediate value) c
step_deep words (JEL label) c = branch_deep eqb label c
step_deep words (JNEL label) c = branch_deep (λ x y. not (eqb x y)) label c
step_deep words (JLL label) c = branch_deep less label c
step_deep words (JLEL label) c = branch_deep (λ x y. not (less y x)) label c
step_deep words (JGL label) c = branch_deep (λ x y. less y x) label c
step_deep words (JGEL label) c = branch_deep (λ x y. not (less x y)) label c
step_deep words (PUSH a) c = push_deep a c
step_deep words (POP a) c = pop_deep a c
step_deep words (CALL label) c = call_deep words label c
step_deep words RET c = return_deep c
step_deep words (LAB label) c = refl
step_deep words NOEXECSTACK c = refl
step_deep words TEXT c = refl
step_deep words (GLOBAL label) c = refl
step_deep words (EXTERN label) c = refl

-- a whole run
abbrev DeepDone : ℕ → Done → Type 0
DeepDone n d = d.last.state.depth ≡ n

on_record_lem : (n : ℕ) (o : Element Code) (past : Done) (here : Code → Done) → DeepDone n past → ((x : Code) → DeepDone n (here x)) → DeepDone n (on_record o past here)
on_record_lem n none past here e h = e
on_record_lem n (some x) past here e h = h x

on_found_lem : (n : ℕ) (f : Option ℕ) (lost : Done) (at : ℕ → Done) → DeepDone n lost → ((j : ℕ) → DeepDone n (at j)) → DeepDone n (on_found f lost at)
on_found_lem n None lost at e h = e
on_found_lem n (Some j) lost at e h = h j

follow_deep : (p : List Code) (made i : ℕ) (c : Config) (go : ℕ → Config → Done) (o : Outcome) → Deep c.state.depth o
    → ((j : ℕ) (d : Config) → DeepDone d.state.depth (go j d)) → DeepDone c.state.depth (follow p made i c go o)
follow_deep p made i c go (next d) e h = h (suc i) d ∙ e
follow_deep p made i c go (jump label d) e h = on_found_lem c.state.depth (find label p) _ _ refl (λ j. h j d ∙ e)
follow_deep p made i c go (end d) e h = e
follow_deep p made i c go (fault d) e h = e

module _ (words : ℕ → ℕ) (p : List Code) where
  runs_deep : (left made i : ℕ) (c : Config) → DeepDone c.state.depth (runs words p left made i c)
  unfolding runs
  runs_deep zero made i c = on_record_lem c.state.depth (get_elem? p i) _ _ refl (λ x. refl)
  runs_deep (suc left) made i c =
      on_record_lem c.state.depth (get_elem? p i) _ _ refl (λ x. follow_deep p made i c (λ j d. runs words p left (suc made) j d) (step words x c) (step_deep words x c) (λ j d. runs_deep left (suc made) j d))

  -- with no step left, the last configuration is the one given
  last_here : (made i : ℕ) (d : Config) → (runs words p 0 made i d).last ≡ d
  unfolding runs
  last_here made i d = by (get_elem? p i)
    where
      by : (o : Element Code) → (on_record o (done (Ok made) d) (λ x. done (Err (Limit made)) d)).last ≡ d
      by none = refl
      by (some x) = refl

  pub reached_deep : (most from to : ℕ) (c d : Config) → RunsTo words p most from to c d → d.state.depth ≡ c.state.depth
  reached_deep most from to c d r =
      sym (ap (λ (x : Config). x.state.depth) (last_here (0 + r.steps) to d)) ∙ sym (ap (λ (x : Done). x.last.state.depth) (r.run 0 0)) ∙ runs_deep (r.steps + 0) 0 from c
