-- One instruction tried alone: refused, or performed as the step.
use Rattle.records.specs.declared.check.Malformed.{Malformed}
use Rattle.records.specs.Checked.{malformed}
use Rattle.std.specs.Prelude.{None, Some, Err, Ok, Option, Result}
use Prim.Native.Nat.{ℕ, ◌*◌, ◌<◌}
use mathlib.Core.Path.{◌≡◌, ap, ◌∙◌}
use mathlib.Core.Bool.{Bool, true, false, ◌&&◌}
use mathlib.Core.List.{List, []}
use lib.Dec.{leb, eqb}
use lib.ListN.{length, drop}
use native.Mathlib.Omega.{arith}
use borrow.Author.Tests.{ltb-true, eqb-true}
use Rattle.records.specs.declared.code.Code.{Code}
use Rattle.records.specs.declared.code.Fields.{Fields}
use Rattle.records.specs.Codes.{fields_of, code_of}
use Rattle.records.specs.Instructions.{register_ok, label_ok, word_ok, operands_ok, fields_ok, used, fields_in, code_at}
use Rattle.records.specs.ReadBack.{code_in}
use Rattle.records.specs.Answers.{AnswersBy}
use Rattle.records.proofs.Conditions.{and_left, and_right}
use Rattle.records.proofs.CodesRead.{starts_ok}
use Rattle.records.proofs.CodesBack.{code_fields, fields_code}
use Rattle.machine_step.specs.declared.instruction.Pair.{Pair}
use Rattle.machine_step.specs.declared.instruction.Moved.{Moved}
use Rattle.machine_step.specs.declared.instruction.Went.{Went}
use Rattle.machine_step.specs.View.{View, view}
use Rattle.machine_step.specs.Memory.{heap_ok}
use Rattle.machine_step.specs.Step.{Call, config, Outcome, step}
use Rattle.machine_step.specs.Forms.{compared_of, Acts}
use Rattle.machine.specs.declared.run.Turn.{Turn}
use Rattle.machine.specs.Trial.{took, trial, trial_of, step_cause}
use Rattle.machine.specs.Run.{codes_of}
use Rattle.machine.specs.Loop.{ListedCodes, turn_of, Turns}
use Rattle.machine.proofs.Running.{unlike}

register_named : (uses : Bool) (r : ℕ) → register_ok uses r ≡ true → r < 16
register_named true r e = ltb-true r 16 e
register_named false r e = let z : r ≡ 0 = eqb-true r 0 e in omega arith

module _ (f : Fields) (e : fields_ok f ≡ true) where
  -- the registers of a well-formed record are 0 to 15
  pub ok_registers : (f.a < 16) × (f.b < 16)
  unfolding fields_ok operands_ok
  ok_registers =
      let u = used f.code in
      let o = and_right (leb 1 f.code && leb f.code 44) (operands_ok u f) e in
      let d = and_left (register_ok (eqb u.a 1) f.a && register_ok (eqb u.b 1) f.b && label_ok (eqb u.label 1) f.label && word_ok (eqb u.offset 1) f.offset) _ o in
      let l = and_left (register_ok (eqb u.a 1) f.a && register_ok (eqb u.b 1) f.b && label_ok (eqb u.label 1) f.label) _ d in
      let r = and_left (register_ok (eqb u.a 1) f.a && register_ok (eqb u.b 1) f.b) _ l in
      (register_named (eqb u.a 1) f.a (and_left (register_ok (eqb u.a 1) f.a) _ r), register_named (eqb u.b 1) f.b (and_right (register_ok (eqb u.a 1) f.a) _ r))

module _ (block : ℕ) (words : ℕ → ℕ) (x : Code) (s : View) (q : Option (ℕ × ℕ)) (calls : List Call) {b : Bool} (h : b ≡ heap_ok block s.size) where
  pub heap_refused : b ≡ false → trial_of (Err (malformed 0)) s q calls ≡ trial block words x (config s q calls)
  unfolding trial
  heap_refused n = rw (← h, n)

  pub code_refused : {f : Fields} {d : Bool} → b ≡ true → f ≡ fields_of x → d ≡ fields_ok f → d ≡ false → trial_of (Err (malformed 1)) s q calls ≡ trial block words x (config s q calls)
  unfolding trial
  code_refused t e o n = rw (← h, t, ← e, ← o, n)

module _ (block : ℕ) (words : ℕ → ℕ) (x : Code) (R S H : List ℕ) {R' S' H' : List ℕ} {q q' : Option (ℕ × ℕ)} {p : Pair} {m : Moved} (calls : List Call) {b d : Bool} {f : Fields} where
  pub performs : b ≡ heap_ok block (length H) → b ≡ true → f ≡ fields_of x → d ≡ fields_ok f → d ≡ true → compared_of p ≡ q → q' ≡ compared_of m.pair
      → Acts R S H R' S' H' p m (step words (code_of f))
      → trial_of (Ok m.went) (view R' S' H') q' calls ≡ trial block words x (config (view R S H) q calls)
  unfolding trial
  performs h t e o r k k' g =
      rw (← h, t, ← e, ← o, r, k', ← k) (ap took (g.goes calls ∙ ap (λ y. step words y (config (view R S H) (compared_of p) calls)) (ap code_of e ∙ code_fields x)))

took_same : {x y : Outcome} → took x ≡ took y → x ≡ y
took_same e = cc

-- record `place` of a checked list, beside a heap that may be lent: it is read, its step is not refused, and the state is that of the step
module _ (block : ℕ) (words : ℕ → ℕ) (n : ℕ) (s : List ℕ) (place : ℕ) (v : View) (q : Option (ℕ × ℕ)) (z : ListedCodes s n) (h : place < n) (k : heap_ok block v.size ≡ true) {r : Option Code} (e : r ≡ code_at s place) where
  is_read : r ≡ Some (code_in (drop (24 * place) s))
  unfolding code_at
  is_read = e ∙ rw (z.starts place h)

  pub not_unread : {A : Type 0} → r ≡ None → A
  not_unread m = unlike (let x = is_read in cc)

  module _ {x : Code} (y : r ≡ Some x) where
    same : x ≡ code_in (drop (24 * place) s)
    same = let b = is_read in cc

    tries : (calls : List Call) → trial block words x (config v q calls) ≡ took (step words (code_in (drop (24 * place) s)) (config v q calls))
    unfolding trial
    tries calls =
        let f = fields_in (drop (24 * place) s) in
        let o = starts_ok (drop (24 * place) s) (z.starts place h) in
        rw (k, same, fields_code f o, o)

    module _ {t : Result Went Malformed} (v' : View) (q' : Option (ℕ × ℕ)) (b : (calls : List Call) → AnswersBy step_cause (trial_of t v' q' calls) (trial block words x (config v q calls))) where
      pub not_refused : {A : Type 0} {i : ℕ} → t ≡ Err (malformed i) → A
      not_refused {i} m = unlike (let y : trial_of (Err (malformed i)) v' q' [] ≡ took (step words (code_in (drop (24 * place) s)) (config v q [])) = rw m at ((b []).answer ∙ tries []) in cc)

      pub turns : {w : Went} {r : Turn} → t ≡ Ok w → r ≡ turn_of (codes_of n s) place w → Turns words n s place v q v' q' r
      turns {w} m u = record { went = w; goes = λ calls. took_same (rw m at ((b calls).answer ∙ tries calls)); turn = u }
