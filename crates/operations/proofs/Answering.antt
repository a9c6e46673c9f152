-- From what an emitter of a list leaves to the operation's answer and output: a first pass on another output tells the size, the second writes.
use Prim.Native.Nat.{ℕ, ◌*◌}
use Rattle.std.specs.Prelude.{Ok, Err}
use Rattle.std.specs.Result.{IsErrAnd}
use mathlib.Core.Path.{◌≡◌, sym, ap, ◌∙◌}
use mathlib.Core.List.{List}
use native.Mathlib.Omega.{arith}
use lib.ListN.{length}
use Rattle.records.specs.declared.code.Code.{Code}
use Rattle.emit.specs.declared.answer.Written.{Written}
use Rattle.emit.specs.declared.answer.Refusal.{Refusal}
use Rattle.emit.specs.declared.cursor.Cursor.{Cursor}
use Rattle.emit.specs.Emitted.{fields_list, Emitted}
use Rattle.emit.specs.Answers.{granted, accepted, Answers, Answer}
use Rattle.emit.proofs.Laws.{length_fields}
use Rattle.emit.proofs.Wrote.{answers, written_whole, granted_if, handed_on}

module _ {o₀ o₁ : List ℕ} {p need : Cursor} (cs : List Code) (d : Emitted o₀ p o₁ need (fields_list cs) 0) (a : p.at ≡ 0) (c : p.counter ≡ 0) (o : List ℕ)
    {r : Answer} (e : r ≡ granted 0 (length o) need.at need.counter) where
  expected : r ≡ granted 0 (length o) (24 * length cs) 0
  expected =
      let h : need.at ≡ 24 * length cs = omega (arith, d.place, length_fields cs) in
      let k : need.counter ≡ 0 = omega (arith, d.drawn) in
      rw (h, k) at e

  pub not_written : {z : Answer} {x : Refusal} → r ≡ Err x → IsErrAnd z (λ y. y ≡ x) → Answers o o z (granted 0 (length o) (24 * length cs) 0) cs
  not_written = handed_on expected

  pub wrote : {w : Written} {o' : List ℕ} {q z : Cursor} → r ≡ Ok w → Emitted o q o' z (fields_list cs) 0 → q.at ≡ 0
      → Answers o o' (Ok w) (granted 0 (length o) (24 * length cs) 0) cs
  wrote {w} f v i =
      let g : ◌≡◌ {A = Answer} (Ok w) (granted 0 (length o) (24 * length cs) 0) = sym f ∙ expected in
      let h = granted_if 0 (length o) (24 * length cs) 0 (ap (λ x. accepted x) (sym g)) in
      answers g (v.bytes ∙ rw (i, ← g) (written_whole cs o 0 (omega arith)))
