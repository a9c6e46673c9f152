-- The claim beside the contracts.
use mathlib.Core.Path.{◌≡◌, sym, ◌∙◌, ap}
use Prim.Native.Nat.{ℕ, suc, ◌-◌, ◌<◌}
use mathlib.Core.List.{List}
use native.Mathlib.Omega.{arith}
use borrow.Author.Tests.{lt-ltb}
use lib.ListN.{length, get_or}
use lib.Seq.{ext_get_or}
use Rattle.machine_step.specs.View.{View, from_end}
use Rattle.machine.specs.Claims.{ViewsDetermine}

end_at : (l : List ℕ) (i : ℕ) → i < length l → from_end l (length l - suc i) ≡ get_or l i 0
end_at l i h =
    let e : length l - suc (length l - suc i) ≡ i = omega arith in
    rw (lt-ltb (length l - suc i) (length l) (omega arith), e)

pub views_determine : ViewsDetermine
views_determine s t H G r k e =
    let p : s.registers ≡ t.registers = ext_get_or 0 s.registers t.registers r (λ i h. ap (λ (v : View). v.reg i) e) in
    let q : s.stack ≡ t.stack = ext_get_or 0 s.stack t.stack k (λ i h. sym (end_at s.stack i h) ∙ ap (λ (v : View). v.stk (length s.stack - suc i)) e ∙ ap (λ (n : ℕ). from_end t.stack (n - suc i)) k ∙ end_at t.stack i (rw (← k) h)) in
    (λ j. record { registers = p j; stack = q j }, ext_get_or 0 H G (ap (λ (v : View). v.size) e) (λ i h. ap (λ (v : View). v.mem i) e))
