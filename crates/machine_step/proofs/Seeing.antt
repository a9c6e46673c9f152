-- A write to a list is a change of its view.
use Rattle.std.specs.Prelude.{Some, Option}
use Prim.Native.Nat.{ℕ, ◌<◌}
use mathlib.Core.Path.{◌≡◌, refl, ◌∙◌, fun_ext}
use mathlib.Core.Bool.{Bool, true, false, cond, true≢false}
use mathlib.Core.List.{List}
use lib.Dec.{eqb}
use lib.ListN.{length, get_or, set, length-set}
use lib.Seq.{get_or-set_same, get_or-set_other}
use borrow.Author.Tests.{eqb-true, eqb-false}
use Rattle.machine_step.specs.View.{View, view, words_of, from_end, upd, put_reg}
use Rattle.machine_step.specs.Forms.{Wrote, Sized}

pub words_set : (l : List ℕ) (i v : ℕ) → i < length l → words_of (set l i v) ≡ upd (words_of l) i v
words_set l i v h = fun_ext (λ j. by j (eqb j i) refl)
  where
    by : (j : ℕ) (b : Bool) → eqb j i ≡ b → get_or (set l i v) j 0 ≡ cond b v (get_or l j 0)
    by j true e = rw (eqb-true j i e) (get_or-set_same l i v 0 h)
    by j false e = get_or-set_other l i j v 0 (eqb-false j i e)

pub view_reg : (R S H : List ℕ) (i v : ℕ) → i < length R → view (set R i v) S H ≡ put_reg (view R S H) i v
view_reg R S H i v h = λ k. record { reg = words_set R i v h k; stk = from_end S; mem = words_of H; depth = length S; size = length H }

pub wrote : {s t : View} {o : Option View} → o ≡ Some t → Wrote s o t true
wrote e = record { made = λ _. e; kept = λ n. absurd (true≢false n) }

-- a register is assigned
pub assigns_register : (R S H : List ℕ) (i v : ℕ) → length R ≡ 16 → i < 16 → Sized (length S) (set R i v) S × Wrote (view R S H) (Some (put_reg (view R S H) i v)) (view (set R i v) S H) true
assigns_register R S H i v z h =
    (record { registers = length-set R i v ∙ z; stack = refl }, wrote (rw (view_reg R S H i v (rw z h))))

-- a word of the stack or the heap is
pub assigns_memory : {S' : List ℕ} (R S : List ℕ) {s t : View} {o : Option View} {b : Bool} → length R ≡ 16 → length S' ≡ length S → Wrote s o t b → Sized (length S) R S' × Wrote s o t b
assigns_memory R S z l w = (record { registers = z; stack = l }, w)
