-- Where an address lies, what is read and written there, and the operands of instructions.
-- From the scope, 'Machine': a stack that ends at 2^40, a lent heap from address 65,536, and a fault for an address outside or unaligned.
use Rattle.std.specs.Prelude.{ℕ, ◌-◌, ◌/◌, ◌%◌, Bool, ◌&&◌, cond, leb, ltb, eqb, None, Some, Option}
use Rattle.machine_step.specs.declared.memory.Place.{Place}
use Rattle.machine_step.specs.declared.memory.Place.TheVariants.{Stack, Heap, Nowhere}
use Rattle.machine_step.specs.View.{View, put_reg, put_stk, put_mem}
use Rattle.word.specs.Words.{sum}

-- the address past the stack, 2^40, and that of its last word, at which STACK enters
abbrev pub stack_end : ℕ
stack_end = 1099511627776

abbrev pub stack_entry : ℕ
stack_entry = 1099511627768

abbrev pub heap_start : ℕ
heap_start = 65536

-- where a block has so many words, a heap of so many: 2 to 1,048,576 whole blocks
unfoldable pub heap_ok : ℕ → ℕ → Bool
heap_ok block size = leb 1 block && (eqb (size % block) 0 && (leb 2 (size / block) && leb (size / block) 1048576))

-- with a stack of so many words, numbered from its end, beside a heap of so many
unfoldable pub place_of : ℕ → ℕ → ℕ → Place
place_of depth size address =
    cond (eqb (address % 8) 0)
    (cond (leb stack_end address) Nowhere
    (cond (ltb ((stack_entry - address) / 8) depth) (Stack ((stack_entry - address) / 8))
    (cond (leb heap_start address && ltb ((address - heap_start) / 8) size) (Heap ((address - heap_start) / 8)) Nowhere)))
    Nowhere

-- among the stack's and the heap's words
abbrev pub word_in : (ℕ → ℕ) → (ℕ → ℕ) → Place → Option ℕ
word_in stk mem (Stack i) = Some (stk i)
word_in stk mem (Heap i) = Some (mem i)
word_in stk mem Nowhere = None

abbrev pub put_at : View → Place → ℕ → Option View
put_at s (Stack i) v = Some (put_stk s i v)
put_at s (Heap i) v = Some (put_mem s i v)
put_at s Nowhere v = None

abbrev pub load : View → ℕ → Option ℕ
load s address = word_in s.stk s.mem (place_of s.depth s.size address)

abbrev pub store : View → ℕ → ℕ → Option View
store s address v = put_at s (place_of s.depth s.size address) v

-- the operands of instructions: a register, the word at a register plus an offset, a value
pub data Operand : Type 0 where
  register : ℕ → Operand
  memory : ℕ → ℕ → Operand
  immediate : ℕ → Operand

abbrev pub value_of : View → Operand → Option ℕ
value_of s (register a) = Some (s.reg a)
value_of s (memory a offset) = load s (sum (s.reg a) offset)
value_of s (immediate v) = Some v

-- no instruction has a value as its target
abbrev pub assigned : View → Operand → ℕ → Option View
assigned s (register a) v = Some (put_reg s a v)
assigned s (memory a offset) v = store s (sum (s.reg a) offset) v
assigned s (immediate w) v = None
