-- A routine sets up and returns: the sixteen records and the moves of the arguments, and the cleanup, computed at the stack pointers that they start from.
use Rattle.std.specs.Prelude.{None, Some, Ok, Err}
use Prim.Native.Nat.{ℕ, zero, suc, ◌+◌, ◌*◌, ◌≤◌, ◌<◌}
use mathlib.Core.Path.{◌≡◌, refl, sym, ap, subst, ◌∙◌, fun_ext}
use mathlib.Core.Bool.{Bool, true, false, cond}
use mathlib.Core.List.{List, [], ◌∷◌, ◌++◌}
use native.Mathlib.Omega.{arith}
use native.Mathlib.Nat.{zero-add, add-zero}
use lib.Dec.{eqb}
use lib.ListN.{length, drop}
use lib.Seq.{drop_at}
use borrow.Author.Tests.{ne_eqb, eqb-true, eqb-false}
use Rattle.records.specs.declared.code.Code.{Code}
use Rattle.records.specs.declared.code.Code.TheVariants.{ADDI, SUBI, MOV, PUSH, POP, RET, LAB}
use Rattle.records.specs.Names.{CLEANUP}
use Rattle.layout.specs.declared.config.Shape.{Shape}
use Rattle.layout.specs.Config.{Supported, STACK, frame_pointer, block_words, block_bytes}
use Rattle.word.specs.Words.{sum, difference}
use Rattle.machine_step.specs.View.{View, upd, put_reg}
use Rattle.machine_step.specs.Step.{Config, config, end, step}
use Rattle.machine.proofs.Places.{place_1, place_2, place_3, place_4, place_5, place_6}
use Rattle.machine.specs.declared.run.Stop.TheVariants.{Limit}
use Rattle.machine.specs.Run.{codes_of, runs, started, ran, starting}
use Rattle.machine.specs.Run as machine
use Rattle.trees_proof.specs.Evaluation.{done}
use Rattle.trees_proof.specs.Claims.{RunsTo}
use Rattle.trees_proof.proofs.Steps.{at_drop, drop_part, after}
use Rattle.routine.specs.Routine.{argument, move_arguments, head, cleanup, routine_bytes}
use Rattle.routine.proofs.Assembling.{head_length, routine_records}
use Rattle.emit_proof.proofs.Routines.{items_length, few_arguments, routine_readable}
use Rattle.routine_proof.specs.Claims.{SavedIn, SetUp, Returned, routine, Frames, RoutineReturns}
use Rattle.routine_proof.proofs.Depth.{reached_deep}
use Rattle.routine_proof.proofs.Through.{through, passes, reached, ended}

-- a state whose STACK is known, with that number written in
abbrev pointed : View → ℕ → View
pointed v stack = put_reg v STACK stack

pointed_same : (v : View) (stack : ℕ) → v.reg STACK ≡ stack → pointed v stack ≡ v
pointed_same v stack h = ap (λ (f : ℕ → ℕ). record { reg = f; stk = v.stk; mem = v.mem; depth = v.depth; size = v.size }) (fun_ext (λ j. by j (eqb j STACK) refl))
  where
    by : (j : ℕ) (b : Bool) → eqb j STACK ≡ b → cond b stack (v.reg j) ≡ v.reg j
    by j true e = sym (ap v.reg (eqb-true j STACK e) ∙ h)
    by j false e = refl

-- P of each number below n
abbrev Each : ℕ → (ℕ → Type 0) → Type 0
Each zero P = Unit {0}
Each (suc n) P = Each n P × P n

each : (n : ℕ) (P : ℕ → Type 0) → Each n P → (k : ℕ) → k < n → P k
each zero P e k h = absurd (omega arith)
each (suc n) P e k h = by (eqb k n) refl (λ g. each n P e.0 k g)
  where
    by : (b : Bool) → eqb k n ≡ b → (k < n → P k) → P k
    by true q r = subst P (sym (eqb-true k n q)) e.1
    by false q r = let m = eqb-false k n q in r (omega arith)

-- ---- the records before the body

-- the six words saved
abbrev saves : View → ℕ → ℕ
saves v = upd (upd (upd (upd (upd (upd v.stk 1 (v.reg 2)) 2 (v.reg 3)) 3 (v.reg 12)) 4 (v.reg 13)) 5 (v.reg 14)) 6 (v.reg 15)

saves_below : (v : View) (i : ℕ) → 7 ≤ i → saves v i ≡ v.stk i
saves_below v i h =
    simp (ne_eqb i 1 (omega arith), ne_eqb i 2 (omega arith), ne_eqb i 3 (omega arith), ne_eqb i 4 (omega arith), ne_eqb i 5 (omega arith), ne_eqb i 6 (omega arith))

abbrev entering : View → View
entering v = pointed v 1099511627768

abbrev framed : View → (ℕ → ℕ) → Config
framed v registers = config (record { reg = registers; stk = saves v; mem = v.mem; depth = v.depth; size = v.size }) None []

record Entry (G : Shape) (words : ℕ → ℕ) (n : ℕ) (v : View) : Type 0 where
  to : Config
  run : through words (head G n) (starting v) ≡ Some to
  state : SetUp G n v to

module _ (G : Shape) (v : View) where
  set_up : (n : ℕ) (registers : ℕ → ℕ) → registers 0 ≡ frame_pointer G → registers 2 ≡ v.reg 7 → registers 3 ≡ sum (v.reg 7) (block_bytes G)
      → Each n (λ k. registers (5 + 2 * k) ≡ v.reg (argument (suc k))) → SetUp G n v (framed v registers)
  set_up n registers a b c d =
      record {
        stack = a;
        heap = b;
        free = c;
        arguments = each n (λ k. registers (5 + 2 * k) ≡ v.reg (argument (suc k))) d;
        saved = record { rbx = refl; rbp = refl; r12 = refl; r13 = refl; r14 = refl; r15 = refl };
        below = saves_below v;
        entry = refl;
        memory = refl;
        size = refl;
        depth = refl;
        calls = refl;
      }

-- the spills taken
taken : (G : Shape) → Supported G → difference 1099511627720 (8 * G.spills) ≡ frame_pointer G
unfolding difference
taken G s = omega (arith, s.frame)

module _ (G : Shape) (supported : Supported G) (words : ℕ → ℕ) (v : View) (deep : 7 ≤ v.depth) where
  -- after the six pushes
  abbrev pushed_registers : ℕ → ℕ
  pushed_registers = upd (upd (upd (upd (upd (upd (upd v.reg 0 1099511627768) 0 1099511627760) 0 1099511627752) 0 1099511627744) 0 1099511627736) 0 1099511627728) 0 1099511627720

  pushes_run : (xs : List Code) → through words (PUSH 2 ∷ PUSH 3 ∷ PUSH 12 ∷ PUSH 13 ∷ PUSH 14 ∷ PUSH 15 ∷ xs) (starting (entering v)) ≡ through words xs (framed (entering v) pushed_registers)
  unfolding step difference
  pushes_run xs = rw (place_1 v.depth v.size deep, place_2 v.depth v.size deep, place_3 v.depth v.size deep, place_4 v.depth v.size deep, place_5 v.depth v.size deep, place_6 v.depth v.size deep)

  abbrev after_pushes : ℕ → List Code
  after_pushes n = SUBI 0 (8 * G.spills) ∷ MOV 2 7 ∷ MOV 3 2 ∷ ADDI 3 (block_bytes G) ∷ move_arguments n

  entries : (n : ℕ) → n ≤ 5 → Entry G words n (entering v)
  unfolding step
  entries zero h = record { to = _; run = pushes_run (after_pushes 0) ∙ refl; state = set_up G (entering v) 0 _ (taken G supported) refl refl tt }
  entries (suc zero) h = record { to = _; run = pushes_run (after_pushes 1) ∙ refl; state = set_up G (entering v) 1 _ (taken G supported) refl refl (tt, refl) }
  entries (suc (suc zero)) h = record { to = _; run = pushes_run (after_pushes 2) ∙ refl; state = set_up G (entering v) 2 _ (taken G supported) refl refl ((tt, refl), refl) }
  entries (suc (suc (suc zero))) h = record { to = _; run = pushes_run (after_pushes 3) ∙ refl; state = set_up G (entering v) 3 _ (taken G supported) refl refl (((tt, refl), refl), refl) }
  entries (suc (suc (suc (suc zero)))) h = record { to = _; run = pushes_run (after_pushes 4) ∙ refl; state = set_up G (entering v) 4 _ (taken G supported) refl refl ((((tt, refl), refl), refl), refl) }
  entries (suc (suc (suc (suc (suc zero))))) h = record { to = _; run = pushes_run (after_pushes 5) ∙ refl; state = set_up G (entering v) 5 _ (taken G supported) refl refl (((((tt, refl), refl), refl), refl), refl) }
  entries (suc (suc (suc (suc (suc (suc n)))))) h = absurd (omega arith)

-- ---- the records after the body

-- those before RET
abbrev popped : List Code
popped = POP 15 ∷ POP 14 ∷ POP 13 ∷ POP 12 ∷ POP 3 ∷ POP 2 ∷ []

abbrev front : Shape → List Code
front G = LAB CLEANUP ∷ ADDI 0 (8 * G.spills) ∷ popped

-- after the second of them
abbrev leaving : Config → ℕ → Config
leaving b stack = config (pointed b.state stack) None b.calls

record Exit (G : Shape) (words registers : ℕ → ℕ) (b : Config) : Type 0 where
  to : Config
  last : Config
  run : through words (front G) b ≡ Some to
  return : step words RET to ≡ end last
  state : Returned registers b last

abbrev popped_registers : View → ℕ → ℕ
popped_registers v =
    upd (upd (upd (upd (upd (upd (upd (upd (upd (upd (upd (upd (upd v.reg 0 1099511627720) 0 1099511627728) 15 (v.stk 6)) 0 1099511627736) 14 (v.stk 5)) 0 1099511627744) 13 (v.stk 4)) 0 1099511627752) 12 (v.stk 3)) 0 1099511627760) 3 (v.stk 2)) 0 1099511627768) 2 (v.stk 1)

abbrev emptied : Config → Config
emptied b = config (record { reg = popped_registers b.state; stk = b.state.stk; mem = b.state.mem; depth = b.state.depth; size = b.state.size }) None b.calls

pops_run : (words : ℕ → ℕ) (b : Config) → 7 ≤ b.state.depth → through words popped (leaving b 1099511627720) ≡ Some (emptied b)
unfolding step sum
pops_run words b deep = rw (place_6 b.state.depth b.state.size deep, place_5 b.state.depth b.state.size deep, place_4 b.state.depth b.state.size deep, place_3 b.state.depth b.state.size deep, place_2 b.state.depth b.state.size deep, place_1 b.state.depth b.state.size deep)

exits : (words registers : ℕ → ℕ) (b : Config) → 7 ≤ b.state.depth → SavedIn b.state.stk registers
    → (to : Config) × (last : Config) × (through words popped (leaving b 1099511627720) ≡ Some to) × (step words RET to ≡ end last) × Returned registers b last
unfolding step sum
exits words registers b deep s = (
  emptied b,
  _,
  pops_run words b deep,
  refl,
  record {
    stack = refl;
    rbx = s.rbx;
    rbp = s.rbp;
    r12 = s.r12;
    r13 = s.r13;
    r14 = s.r14;
    r15 = s.r15;
    others = λ r h a c d. simp (ne_eqb r 0 a, ne_eqb r 2 c, ne_eqb r 3 d, ne_eqb r 12 (omega arith), ne_eqb r 13 (omega arith), ne_eqb r 14 (omega arith), ne_eqb r 15 (omega arith));
    words = refl;
    memory = refl;
    size = refl;
    depth = refl;
    calls = refl;
  },
)

-- the spills given back
given_back : (G : Shape) → Supported G → (x : ℕ) → x ≡ frame_pointer G → sum x (8 * G.spills) ≡ 1099511627720
unfolding sum
given_back G s x e = omega (arith, s.frame)

cleans : (G : Shape) → Supported G → (words registers : ℕ → ℕ) (b : Config) → 7 ≤ b.state.depth → b.state.reg STACK ≡ frame_pointer G
    → SavedIn b.state.stk registers → Exit G words registers b
unfolding step
cleans G supported words registers b deep e s =
    let x = exits words registers b deep s in
    record { to = x.0; last = x.1; run = ap (λ (n : ℕ). through words popped (leaving b n)) (given_back G supported (b.state.reg STACK) e) ∙ x.2; return = x.3; state = x.4 }

-- ---- the whole, around the records of a body

abbrev around : Shape → ℕ → List Code → List Code
around G n body = head G n ++ (body ++ cleanup G)

module _ (G : Shape) (words : ℕ → ℕ) (n : ℕ) (body : List Code) (v : View) where
  abbrev p : List Code
  p = around G n body

  body_place : drop (16 + n) p ≡ body ++ cleanup G
  body_place = drop_at (head G n) (body ++ cleanup G) (16 + n) (head_length G n)

  cleanup_place : drop (16 + n + length body) p ≡ cleanup G
  cleanup_place = drop_part p (16 + n) (length body) body (cleanup G) body_place refl

  module _ (x : Entry G words n v) where
    -- the run to the body's place
    to_body : (left made : ℕ) → runs words p (16 + n + left) made 0 (starting v) ≡ runs words p left (made + (16 + n)) (16 + n) x.to
    to_body left made = rw (head_length G n, zero-add) at (passes words p (head G n) 0 (body ++ cleanup G) (starting v) x.to refl x.run left made)

    -- a record stands there, the body's first or the cleanup's
    stopped : started words p (16 + n) v ≡ machine.done (Err (Limit (16 + n))) x.to
    unfolding runs
    stopped = rw (add-zero, zero-add) at (to_body 0 0) ∙ by body body_place
      where
        by : (b : List Code) → drop (16 + n) p ≡ b ++ cleanup G → runs words p 0 (16 + n) (16 + n) x.to ≡ machine.done (Err (Limit (16 + n))) x.to
        by [] e = rw (at_drop p (16 + n) e)
        by (c ∷ cs) e = rw (at_drop p (16 + n) e)

    enters : RunsTo words p (16 + n) 0 (16 + n) (starting v) x.to
    enters = record { steps = 16 + n; within = omega arith; run = to_body }

    module _ (most : ℕ) (b : Config) (g : RunsTo words p most (16 + n) (16 + n + length body) x.to b) where
      to_cleanup : RunsTo words p (16 + n + most) 0 (16 + n + length body) (starting v) b
      to_cleanup = after words p (16 + n) most 0 (16 + n) (16 + n + length body) (done b) enters g (omega arith) (16 + n + most) (omega arith)

      to_return : (e : Config) → through words (front G) b ≡ Some e → RunsTo words p (16 + n + most + 8) 0 (16 + n + length body + 8) (starting v) e
      to_return e h =
          after words p (16 + n + most) 8 0 (16 + n + length body) (16 + n + length body + 8) (done e) to_cleanup
          (reached words p (front G) (16 + n + length body) (RET ∷ []) b e cleanup_place h) (omega arith) (16 + n + most + 8) (omega arith)

      returned : (y : Exit G words v.reg b) (limit : ℕ) → 16 + n + most + 9 ≤ limit → (k : ℕ) × (k ≤ limit) × (started words p limit v ≡ machine.done (Ok k) y.last)
      returned y limit h =
          let z : drop (16 + n + length body + 8) p ≡ RET ∷ [] = drop_part p (16 + n + length body) 8 (front G) (RET ∷ []) cleanup_place refl in
          ended words p (16 + n + length body + 8) (starting v) y.to y.last z y.return (16 + n + most + 8) limit (to_return y.to y.run) (omega arith)

-- ---- the whole, as bytes

module _ (G : Shape) (supported : Supported G) (words : ℕ → ℕ) (n k : ℕ) (body : List ℕ) (v : View) (deep : 7 ≤ v.depth) (x : Entry G words n v)
    (e : length (codes_of k body) ≡ k) (bytes : (limit : ℕ) → ran (block_words G) words (routine_bytes G n body) limit v ≡ started words (routine G n k body) limit v) where
  framed_whole : Frames G words n k body v
  framed_whole =
      record {
        entered = x.to;
        enters = enters G words n (codes_of k body) v x;
        starts = bytes (16 + n) ∙ stopped G words n (codes_of k body) v x;
        state = x.state;
        returns = λ most b g a c limit h.
            let d = reached_deep words (routine G n k body) most (16 + n) (16 + n + k) x.to b g ∙ x.state.depth in
            let y = cleans G supported words v.reg b (omega (arith, d)) a c in
            let r = returned G words n (codes_of k body) v x most b (rw e g) y limit h in
            record { steps = r.0; within = r.1; last = y.last; run = bytes limit ∙ r.2; state = y.state };
      }

pub routine_returns : RoutineReturns
unfolding RoutineReturns
routine_returns G supported words room n k body v b a e s d h =
    let five = few_arguments G supported room n body a in
    let r = routine_readable G supported n k body five b e in
    let deep : 7 ≤ v.depth = omega arith in
    framed_whole G supported words n k body v deep (subst (Entry G words n) (pointed_same v 1099511627768 s) (entries G supported words v deep n five)) (items_length k body)
    (λ limit. ap (λ (z : List ℕ). ran (block_words G) words z limit v) (routine_records G n k body b e) ∙ r.runs (block_words G) words limit v h)
