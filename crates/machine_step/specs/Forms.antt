-- How the code goes about an instruction: writes that may fail, operands, results and conditions by numbers, and what an answer says. The meaning of an
-- instruction is in `Step`; these join the code to it.
use Rattle.std.specs.Prelude.{ℕ, ◌<◌, ◌%◌, ◌≡◌, Bool, true, false, not, cond, List, eqb, length, None, Some, Option}
use Rattle.records.specs.declared.code.Fields.{Fields}
use Rattle.word.specs.Words.{sum, difference, product, choose, less}
use Rattle.machine_step.specs.declared.memory.Place.{Place}
use Rattle.machine_step.specs.declared.memory.Place.TheVariants.{Stack, Heap, Nowhere}
use Rattle.machine_step.specs.declared.instruction.Pair.{Pair}
use Rattle.machine_step.specs.declared.instruction.Moved.{Moved}
use Rattle.machine_step.specs.View.{View, view}
use Rattle.machine_step.specs.Memory.{Operand, register, memory, immediate}
use Rattle.machine_step.specs.Step.{Call, Config, config, Outcome, outcome_of}

-- where a place lies within its words
abbrev pub Inside : ℕ → ℕ → Place → Type 0
Inside depth size (Stack i) = i < depth
Inside depth size (Heap i) = i < size
Inside depth size Nowhere = Unit {0}

-- what a write that may fail did to s: whether it wrote, and the state after it, as a definition has it
pub record Wrote (s : View) (o : Option View) (t : View) (ok : Bool) : Type 0 where
  pub made : ok ≡ true → o ≡ Some t
  pub kept : ok ≡ false → (o ≡ None) × (t ≡ s)

-- the forms of operands
abbrev pub operand_of : ℕ → Fields → Operand
operand_of n f =
    cond (eqb n 0) (register f.a)
    (cond (eqb n 1) (register f.b)
    (cond (eqb n 2) (memory f.a f.offset)
    (cond (eqb n 3) (memory f.b f.offset) (immediate f.value))))

-- the register in a form below 4: a in the even ones, b in the odd ones
unfoldable pub named : ℕ → Fields → ℕ
named n f = choose (eqb (n % 2) 0) f.a f.b

unfoldable pub result_of : ℕ → ℕ → ℕ → ℕ
result_of n x y = choose (eqb n 0) (sum x y) (choose (eqb n 1) (difference x y) (product x y))

unfoldable pub holds_of : ℕ → ℕ → ℕ → Bool
holds_of n x y =
    cond (eqb n 0) (eqb x y)
    (cond (eqb n 1) (not (eqb x y))
    (cond (eqb n 2) (less x y)
    (cond (eqb n 3) (not (less y x))
    (cond (eqb n 4) (less y x) (not (less x y))))))

-- the pair as the code carries it
abbrev pub compared_of : Pair → Option (ℕ × ℕ)
compared_of p = cond (eqb p.made 0) None (Some (p.x, p.y))

pub record Sized (depth : ℕ) (R S : List ℕ) : Type 0 where
  pub registers : length R ≡ 16
  pub stack : length S ≡ depth

-- registers R, stack S and heap H went to R', S', H' with an answer, by the outcome o
pub record Acts (R S H R' S' H' : List ℕ) (p : Pair) (m : Moved) (o : Config → Outcome) : Type 0 where
  pub sized : Sized (length S) R' S'
  pub goes : (calls : List Call) → outcome_of m.went (view R' S' H') (compared_of m.pair) calls ≡ o (config (view R S H) (compared_of p) calls)
