-- A state and a heap as functions from a number to a word, and what changes one word of them.
-- From the scope, 'Machine': the state holds 16 registers and the stack, beside the lent heap.
use Rattle.std.specs.Prelude.{ℕ, suc, ◌-◌, cond, List, eqb, ltb, length, get_or}

-- the registers, the stack's words from its end, the heap's words, and how many words stack and heap have
pub record View : Type 0 where
  pub reg : ℕ → ℕ
  pub stk : ℕ → ℕ
  pub mem : ℕ → ℕ
  pub depth : ℕ
  pub size : ℕ

-- the words of a list
abbrev pub words_of : List ℕ → ℕ → ℕ
words_of l i = get_or l i 0

-- the words of a list from its last
abbrev pub from_end : List ℕ → ℕ → ℕ
from_end l i = cond (ltb i (length l)) (get_or l (length l - suc i) 0) 0

abbrev pub view : List ℕ → List ℕ → List ℕ → View
view registers stack heap = record { reg = words_of registers; stk = from_end stack; mem = words_of heap; depth = length stack; size = length heap }

-- f with v at i
abbrev pub upd : (ℕ → ℕ) → ℕ → ℕ → ℕ → ℕ
upd f i v j = cond (eqb j i) v (f j)

abbrev pub put_reg : View → ℕ → ℕ → View
put_reg s i v = record { reg = upd s.reg i v; stk = s.stk; mem = s.mem; depth = s.depth; size = s.size }

abbrev pub put_stk : View → ℕ → ℕ → View
put_stk s i v = record { reg = s.reg; stk = upd s.stk i v; mem = s.mem; depth = s.depth; size = s.size }

abbrev pub put_mem : View → ℕ → ℕ → View
put_mem s i v = record { reg = s.reg; stk = s.stk; mem = upd s.mem i v; depth = s.depth; size = s.size }
