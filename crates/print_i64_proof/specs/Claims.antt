-- What the crate promises of print_i64, from the scope, 'Operations': it has its source in register 7 at the CALL and keeps all variables, if the source is a position
-- of its context, with STACK where the routine's setup leaves it. Variable v has its Fst at position 2v and its Snd at 2v+1; an integer's Fst is no part of it.
-- A call is told by its name and by the word in register 7; the nine words that a print leaves in registers 1 and 4..11 are any.
use Rattle.std.specs.Prelude.{ℕ, ◌+◌, ◌*◌, ◌≤◌, ◌<◌, ◌≡◌, Bool, false, List, [], ◌∷◌, ◌++◌, Ok}
use Rattle.records.specs.Contexts.{checked_context, ext_at}
use Rattle.layout.specs.declared.config.Shape.{Shape}
use Rattle.layout.specs.Config.{Supported, STACK, HEAP, FREE, operands, positions}
use Rattle.layout.specs.Positions.{location}
use Rattle.print_i64.specs.Print.{print_name, print_records}
use Rattle.machine_step.specs.View.{View}
use Rattle.machine_step.specs.Step.{Config}
use Rattle.layout_proof.specs.Held.{held}
use Rattle.code_proof.specs.Claims.{Ready, EndsWith}
use Rattle.machine.specs.Run.{starting}

-- from c to d a word was printed, and the n variables of these kinds and the heap are as they were
pub record PrintLeaves (G : Shape) (newline : Bool) (word : ℕ) (ext : ℕ → Bool) (n : ℕ) (c d : Config) : Type 0 where
  -- one call more, of the print asked for
  pub called : d.calls ≡ c.calls ++ (record { name = print_name newline; number = word } ∷ [])
  pub snd_kept : (v : ℕ) → v < n → 2 * v + 1 < positions G → held d (location (2 * v + 1)) ≡ held c (location (2 * v + 1))
  pub fst_kept : (v : ℕ) → v < n → 2 * v < positions G → ext v ≡ false → held d (location (2 * v)) ≡ held c (location (2 * v))
  -- the frame's spills, of variables or not
  pub spills_kept : (l : ℕ) → 16 ≤ l → l < operands G → held d l ≡ held c l
  pub stack_kept : d.state.reg STACK ≡ c.state.reg STACK
  pub HEAP-kept : d.state.reg HEAP ≡ c.state.reg HEAP
  pub FREE-kept : d.state.reg FREE ≡ c.state.reg FREE
  pub heap_kept : d.state.mem ≡ c.state.mem
  pub size_kept : d.state.size ≡ c.state.size
  pub depth_kept : d.state.depth ≡ c.state.depth

-- the bytes that print_i64 writes for any position of a context of n variables, run in a state that operations run in
unfoldable pub PrintKeepsAllVariables : Type 0
PrintKeepsAllVariables =
    (G : Shape) → Supported G → (words : ℕ → ℕ) (v : View) (context : List ℕ) (n p : ℕ) (newline : Bool) → Ready G v
    → checked_context context ≡ Ok n → p < 2 * n → p < positions G
    → EndsWith G words (print_records G newline (location p) context (checked_context context)) v
    (PrintLeaves G newline (held (starting v) (location p)) (ext_at context) n (starting v))
