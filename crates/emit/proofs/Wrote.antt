-- From what an emitter leaves to an operation's answer and output.
use Rattle.std.specs.Prelude.{Ok, Err, Some, None, Option, Result}
use Rattle.std.specs.Option.{ok_or}
use Rattle.std.specs.Result.{IsErrAnd}
use Prim.Native.Nat.{ℕ, ◌+◌, ◌*◌, ◌/◌, ◌≤◌, ◌<◌}
use mathlib.Core.Bool.{Bool, true, false, cond}
use mathlib.Core.Path.{◌≡◌, refl, sym, ap, ◌∙◌, subst}
use mathlib.Core.List.{List, [], ◌∷◌}
use native.Mathlib.Omega.{arith}
use lib.Dec.{leb, ltb}
use lib.ListN.{length}
use lib.Seq.{sets, length-sets}
use borrow.Author.Tests.{lt-ltb, le-ltb, ltb-false, leb-true, lt-leb, le-leb}
use Rattle.records.specs.declared.code.Code.{Code}
use Rattle.records.specs.declared.code.Fields.{Fields}
use Rattle.records.specs.Bytes.{le, stored}
use Rattle.records.specs.Codes.{fields_of}
use Rattle.records.specs.Instructions.{fields_bytes}
use Rattle.records.specs.ReadBack.{joined, code_bytes}
use Rattle.records.proofs.Conditions.{never, and_left, and_right}
use Rattle.records.proofs.Storing.{sets_then, stored_whole}
use Rattle.records.specs.Names.{last_label}
use Rattle.trees.specs.Tree.{Tree, labels, size, flat}
use Rattle.trees.proofs.Flat.{length_flat}
use Rattle.emit.specs.declared.cursor.Cursor.{Cursor}
use Rattle.emit.specs.declared.answer.Written.{Written}
use Rattle.emit.specs.declared.answer.Refusal.{Refusal}
use Rattle.emit.specs.declared.answer.Refusal.TheVariants.{Labels, Room}
use Rattle.emit.specs.Emitted.{written, fields_list, Emitted, Emits}
use Rattle.emit.specs.Answers.{cause_of, ample, granted, accepted, output, Answers, written_with as outcome, Answer}
use Rattle.emit.proofs.Laws.{length_fields, listed}

pub bytes_long : (f : Fields) → length (fields_bytes f) ≡ 24
unfolding fields_bytes le
bytes_long f = refl

-- records that all fit are the records' bytes in a row
pub written_whole : (cs : List Code) (o : List ℕ) (i : ℕ) → i + 24 * length cs ≤ length o → written o i (fields_list cs) ≡ sets o i (joined code_bytes cs)
written_whole [] o i h = refl
written_whole (c ∷ cs) o i h =
    let f = fields_bytes (fields_of c) in
    let e = bytes_long (fields_of c) in
    let one : sets o i f ≡ stored o i f = stored_whole o i f (omega arith) in
    let l = length-sets o i f in
    ap (λ (x : List ℕ). written x (i + 24) (fields_list cs)) (sym one)
    ∙ written_whole cs (sets o i f) (i + 24) (omega arith)
    ∙ sets_then f (joined code_bytes cs) o i (i + 24) (omega arith)

module _ (counter room bytes n : ℕ) where
  pub no_labels : last_label < counter + n → Err Labels ≡ granted counter room bytes n
  unfolding granted
  no_labels h = rw (lt-ltb last_label (counter + n) h)

  pub no_room : counter + n ≤ last_label → room < bytes → Err (Room bytes) ≡ granted counter room bytes n
  unfolding granted
  no_room h r = rw (le-ltb last_label (counter + n) h, lt-ltb room bytes r)

  pub granted_all : counter + n ≤ last_label → bytes ≤ room → Ok (outcome (bytes / 24) (counter + n)) ≡ granted counter room bytes n
  unfolding granted
  granted_all h r = rw (le-ltb last_label (counter + n) h, le-ltb room bytes r)

  -- what an accepted answer says
  pub granted_if : accepted (granted counter room bytes n) ≡ true → (counter + n ≤ last_label) × (bytes ≤ room)
  unfolding granted
  granted_if e = by (ltb last_label (counter + n)) (ltb room bytes) refl refl e
    where
      by : (a b : Bool) → ltb last_label (counter + n) ≡ a → ltb room bytes ≡ b
          → accepted (cond a (Err Labels) (cond b (Err (Room bytes)) (Ok (outcome (bytes / 24) (counter + n))))) ≡ true
          → (counter + n ≤ last_label) × (bytes ≤ room)
      by true b p q r = never r
      by false true p q r = never r
      by false false p q r = (ltb-false last_label (counter + n) p, ltb-false room bytes q)

pub answers : {o o' : List ℕ} {r expected : Answer} {cs : List Code} → r ≡ expected → o' ≡ output expected o cs → Answers o o' r expected cs
answers e f = record { answer = e; cause = ap cause_of e; bytes = f }

-- a refusal leaves the output
pub refused : {o : List ℕ} {r expected : Answer} {cs : List Code} {b : Bool} → r ≡ expected → b ≡ accepted r → b ≡ false → Answers o o r expected cs
refused e a f = answers e (rw (← e, ← a, f))

-- a refusal handed on by `?` leaves the output too
pub handed_on : {o : List ℕ} {r z expected : Answer} {cs : List Code} {x : Refusal} → r ≡ expected → r ≡ Err x → IsErrAnd z (λ y. y ≡ x) → Answers o o z expected cs
handed_on {z = Ok w} e f h = absurd h
handed_on {z = Err y} {expected} e f h =
    let g : ◌≡◌ {A = Answer} (Err y) expected = ap (λ v. Err v) h ∙ sym f ∙ e in
    refused g refl refl

-- and one by `ok_or`, where an option is none
pub wanting : {A : Type 0} {f : Option A} {r : Result A Refusal} {o : List ℕ} {z expected : Answer} {cs : List Code} {d x : Refusal}
    → r ≡ ok_or f d → r ≡ Err x → IsErrAnd z (λ y. y ≡ x) → (f ≡ None → Err d ≡ expected) → Answers o o z expected cs
wanting {A} {f = Some v} {x = x} e g h k =
    let i : ◌≡◌ {A = Result A Refusal} (Ok v) (Err x) = sym e ∙ g in
    let n : ◌≡◌ {A = ℕ} 0 1 = cc in
    absurd (omega arith)
wanting {A} {f = None} {expected = expected} {d = d} {x = x} e g h k =
    let i : ◌≡◌ {A = Result A Refusal} (Err d) (Err x) = sym e ∙ g in
    let j : d ≡ x = cc in
    handed_on {r = expected} refl (sym (k refl) ∙ ap (λ v. Err v) j) h

-- the answer's bounds on the counter and the room, from the size that a first pass told
pub room_for : {o₀ o₁ : List ℕ} {p need : Cursor} {r : Answer} {w : Written} (t : Tree) (counter room : ℕ) → Emits o₀ p o₁ need t → p.at ≡ 0 → p.counter ≡ 0
    → r ≡ granted counter room need.at need.counter → r ≡ Ok w
    → (counter + labels t ≤ last_label) × (24 * size t ≤ room)
room_for t counter room d a c e f =
    let g = granted_if counter room _ _ (ap (λ v. accepted v) (sym e ∙ f)) in
    (omega (arith, g.0, d.drawn), omega (arith, g.1, d.place))

-- a first pass on another output tells the size; the second writes
module _ {o₀ o₁ : List ℕ} {p need : Cursor} (t : Tree) (counter : ℕ) (d : Emits o₀ p o₁ need t) (a : p.at ≡ 0) (c : p.counter ≡ 0) where
  same : (room : ℕ) → granted counter room need.at need.counter ≡ granted counter room (24 * size t) (labels t)
  same room =
      let h : need.at ≡ 24 * size t = omega (arith, d.place) in
      let k : need.counter ≡ labels t = omega (arith, d.drawn) in
      rw (h, k)

  module _ (o : List ℕ) {r : Answer} (e : r ≡ granted counter (length o) need.at need.counter) where
    pub not_written : {z : Answer} {x : Refusal} → r ≡ Err x → IsErrAnd z (λ y. y ≡ x) → Answers o o z (granted counter (length o) (24 * size t) (labels t)) (flat t counter)
    not_written = handed_on (e ∙ same (length o))

    pub wrote : {w : Written} {o' : List ℕ} {q z : Cursor} → r ≡ Ok w → Emits o q o' z t → q.at ≡ 0 → q.counter ≡ counter
        → Answers o o' (Ok w) (granted counter (length o) (24 * size t) (labels t)) (flat t counter)
    wrote {w} f v i j =
        let h = room_for t counter (length o) d a c e f in
        let l = length_flat t counter 0 in
        let g : ◌≡◌ {A = Answer} (Ok w) (granted counter (length o) (24 * size t) (labels t)) = sym f ∙ e ∙ same (length o) in
        answers g (v.bytes ∙ rw (i, j, ← g) (written_whole (flat t counter) o 0 (omega arith)))

-- what ample labels and room say
module _ (counter room most records : ℕ) where
  pub ample_if : {b : Bool} → b ≡ ample counter room most records → b ≡ true → (counter + most ≤ last_label) × (24 * records ≤ room)
  unfolding ample
  ample_if e t =
      let h = sym e ∙ t in
      let l = leb (counter + most) last_label in
      let r = leb (24 * records) room in
      (leb-true (counter + most) last_label (and_left l r h), leb-true (24 * records) room (and_right l r h))

  pub labels_wanting : last_label < counter + most → false ≡ ample counter room most records
  unfolding ample
  labels_wanting h = rw (lt-leb (counter + most) last_label h)

  pub room_decides : counter + most ≤ last_label → leb (24 * records) room ≡ ample counter room most records
  unfolding ample
  room_decides h = rw (le-leb (counter + most) last_label h)

-- records written at once, where neither labels nor room can be wanting: a list's, and a tree's
pub at_once_listed : {o o' : List ℕ} {p q : Cursor} {r : Answer} (cs : List Code) (counter : ℕ) {n : ℕ} → Emitted o p o' q (fields_list cs) n → p.at ≡ 0 → p.counter ≡ counter
    → r ≡ Ok (outcome (q.at / 24) q.counter) → counter + n ≤ last_label → 24 * length cs ≤ length o
    → Answers o o' r (granted counter (length o) (24 * length cs) n) cs
at_once_listed {o} {q = q} cs counter {n} w i j k l h =
    let a : q.at ≡ 24 * length cs = omega (arith, w.place, length_fields cs) in
    let c : q.counter ≡ counter + n = omega (arith, w.drawn) in
    let e : Ok (outcome (q.at / 24) q.counter) ≡ granted counter (length o) (24 * length cs) n = rw (a, c) (granted_all counter (length o) (24 * length cs) n l h) in
    answers (k ∙ e) (w.bytes ∙ rw (i, ← e) (written_whole cs o 0 (omega arith)))

pub at_once : {o o' : List ℕ} {p q : Cursor} {r : Answer} (t : Tree) (counter : ℕ) → Emits o p o' q t → p.at ≡ 0 → p.counter ≡ counter
    → r ≡ Ok (outcome (q.at / 24) q.counter) → counter + labels t ≤ last_label → 24 * size t ≤ length o
    → Answers o o' r (granted counter (length o) (24 * size t) (labels t)) (flat t counter)
at_once {o} {o'} {p} {q} t counter w i j k l h =
    let f = length_flat t counter 0 in
    let d = subst (λ (m : ℕ). Emitted o p o' q (fields_list (flat t m)) (labels t)) j (listed w) in
    rw f at (at_once_listed (flat t counter) counter d i j k l (omega arith))
