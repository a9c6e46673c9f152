-- The registers' names in the Rust's sequence, and the number by which the processor encodes each.
-- From the scope, 'Instruction record': registers 0..15 are rsp, rcx, rbx, rbp, rax, rdx, rsi, rdi, r8..r15; the numbers are the Intel 64 manual's.
use Rattle.std.specs.Prelude.{ℕ, cond, List, [], ◌∷◌, ltb, get_or, Some, None, Option}

pub data RegisterName : Type 0 where
  rax rcx rdx rbx rsp rbp rsi rdi r8 r9 r10 r11 r12 r13 r14 r15 : RegisterName

abbrev pub register_names : List RegisterName
register_names =
    rsp ∷ rcx ∷ rbx ∷ rbp ∷ rax ∷ rdx ∷ rsi ∷ rdi ∷ r8 ∷ r9 ∷ r10 ∷ r11 ∷ r12 ∷ r13 ∷ r14 ∷ r15 ∷ []

abbrev pub encoded : RegisterName → ℕ
encoded rax = 0
encoded rcx = 1
encoded rdx = 2
encoded rbx = 3
encoded rsp = 4
encoded rbp = 5
encoded rsi = 6
encoded rdi = 7
encoded r8 = 8
encoded r9 = 9
encoded r10 = 10
encoded r11 = 11
encoded r12 = 12
encoded r13 = 13
encoded r14 = 14
encoded r15 = 15

unfoldable pub hardware_of : ℕ → Option ℕ
hardware_of r = cond (ltb r 16) (Some (encoded (get_or register_names r rsp))) None
