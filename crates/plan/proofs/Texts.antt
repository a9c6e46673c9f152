-- The lines of a text, put one after the other.
use Rattle.plan.specs.declared.lines.BadLine.{BadLine}
use Rattle.std.specs.Prelude.{Err, Ok, None, Some, Result}
use Prim.Native.Nat.{ℕ, suc, ◌+◌, ◌*◌, ◌≤◌, ◌<◌}
use mathlib.Core.Path.{◌≡◌, refl, sym, ap, ◌∙◌, subst}
use mathlib.Core.Bool.{Bool, true, false, cond}
use mathlib.Core.List.{List, [], ◌∷◌, ◌++◌, append_assoc}
use native.Mathlib.Nat.{zero-add}
use native.Mathlib.Numerals.{add-one}
use native.Mathlib.Omega.{arith}
use borrow.Author.Tests.{le-leb, lt-leb, leb-true, ltb-true, ltb-false}
use lib.Dec.{ltb, leb}
use lib.ListN.{length, take, drop}
use lib.Seq.{drop-cons, sets}
use Rattle.records.specs.Bytes.{stored}
use Rattle.records.proofs.Storing.{stored_whole, stored_nothing}
use Rattle.text.specs.Putting.{Puts}
use Rattle.text.proofs.Putting.{nothing, at_most, ◌⨟◌}
use Rattle.plan_line.specs.declared.wrong.Wrong.{Wrong}
use Rattle.plan_line.specs.declared.words.Sought.TheVariants.{Byte}
use Rattle.plan_line.specs.Words.{sought_in, before, found, part, parts, words_in, lines_of}
use Rattle.plan_line.specs.Orders.{Words, line_of, Line}
use Rattle.plan_line.proofs.Searching.{drop_past, take_before, part_found, drop_found, parts_first, rest}
use Rattle.plan.specs.declared.NotPlanned.TheVariants.{Bad, Room, Long}
use Rattle.plan.specs.Plan.{Plan, records, bad, onto_plan, with_line, plan_records, line_words, plan_from, plan_of, longest_plan, plan_answer, plan_bytes, planned, planned_bytes}
use Rattle.plan.specs.Steps.{most_line, PutsLine, Stepped, next, stop, PutsPlan, LaidOut, laid, bad_line}
use Rattle.plan.proofs.Putting.{append-nil}

-- what stands before a comment
pub cut : (P : ℕ → Bool) (s : List ℕ) {end : ℕ} → end ≡ found P s 0 → take end s ≡ before P s
unfolding found
cut P s e = let z : found P s 0 ≡ length (before P s) = zero-add (length (before P s)) in rw (e, z) (take_before P s)

abbrev pub LF : ℕ → Bool
LF = sought_in (Byte 10)

onto_nil : (p : Plan) → p ≡ onto_plan [] p
onto_nil (records cs) = refl
onto_nil (bad n wrong) = refl

onto_onto : (cs bs : List ℕ) (p : Plan) → onto_plan cs (onto_plan bs p) ≡ onto_plan (cs ++ bs) p
onto_onto cs bs (records ds) = ap records (sym (append_assoc cs bs ds))
onto_onto cs bs (bad n wrong) = refl

-- the first lines of a text put, and the plan of those that are left
pub record Laying (most : ℕ) (o o' : List ℕ) (j : ℕ) (whole left : Plan) : Type 0 where
  pub so_far : List ℕ
  pub put : Puts most o 0 o' j so_far
  pub joins : whole ≡ onto_plan so_far left

no_line : (o : List ℕ) (plan : Plan) → Laying 0 o o 0 plan plan
no_line o plan = record { so_far = []; put = nothing o 0; joins = onto_nil plan }

pub no_line_yet : (o text : List ℕ) → Laying (most_line * 0) o o 0 (plan_of text) (plan_from (0 + 1) (lines_of (drop 0 text)))
unfolding plan_of
no_line_yet o text = no_line o (plan_from 1 (lines_of text))

-- the next line starts after this one
module _ {at end past size : ℕ} (inside : at < size) (from : at ≤ end) (within : end ≤ size)
    (on : end < size → past ≡ end + 1) (off : size ≤ end → past ≡ end) where
  forward_by : (x : Bool) → ltb end size ≡ x → (at < past) × (past ≤ size)
  forward_by true h = let g = on (ltb-true end size h) in let k = ltb-true end size h in (omega arith, omega arith)
  forward_by false h = let g = off (ltb-false end size h) in let k = ltb-false end size h in (omega arith, omega arith)

  pub forward : (at < past) × (past ≤ size)
  forward = forward_by (ltb end size) refl

module _ {most j : ℕ} {o o' : List ℕ} {whole left : Plan} (l : Laying most o o' j whole left) where
  put_next : {k : ℕ} {o'' : List ℕ} (bs : List ℕ) (left' : Plan) → Puts most_line o' j o'' k bs → left ≡ onto_plan bs left'
      → Laying (most + most_line) o o'' k whole left'
  put_next bs left' p e =
      record { so_far = l.so_far ++ bs; put = l.put ⨟ p; joins = l.joins ∙ ap (onto_plan l.so_far) e ∙ onto_onto l.so_far bs left' }

  put_line_lem : (n : ℕ) (ws : Words) (x : Line) (left' : Plan) {k : ℕ} {o'' : List ℕ} → PutsLine o' j o'' k ws x → left ≡ with_line n ws x left'
      → Laying (most + most_line) o o'' k whole left'
  put_line_lem n ws (Ok None) left' p e = put_next [] left' p (e ∙ onto_nil left')
  put_line_lem n ws (Ok (Some order)) left' p e = put_next (plan_records order ws) left' p e
  put_line_lem n ws (Err wrong) left' p e = absurd p

  pub bad_line_left : {n : ℕ} {wrong : Wrong} → left ≡ bad n wrong → whole ≡ bad n wrong
  bad_line_left e = l.joins ∙ ap (onto_plan l.so_far) e

  pub no_line_left : left ≡ records [] → most ≤ 0x10_0000_0030_0000 → PutsPlan o o' j whole
  no_line_left e h =
      let g : whole ≡ records l.so_far = l.joins ∙ ap (onto_plan l.so_far) e ∙ ap records (append-nil l.so_far) in
      subst (λ (p : Plan). PutsPlan o o' j p) (sym g) (record { whole = refl; put = at_most l.put h })

-- a step's answer
at_next : {o o' : List ℕ} {i j : ℕ} {ws : Words} → Stepped o i o' ws (Ok j) → PutsLine o i o' j ws (line_of ws)
at_next (next p) = p

at_stop : {o o' : List ℕ} {i : ℕ} {ws : Words} {wrong : Wrong} → Stepped o i o' ws (Err wrong) → line_of ws ≡ Err wrong
at_stop (stop e) = e

-- the line at an index, and those after it
module _ (text : List ℕ) (at : ℕ) {end : ℕ} (e : end ≡ found LF text at) (n : ℕ) where
  first_line : lines_of (drop at text) ≡ part at end text ∷ rest LF (drop end text)
  first_line = rw (e, part_found LF text at, drop_found LF text at) (parts_first LF (drop at text))

  line_first : plan_from (n + 1) (lines_of (drop at text))
      ≡ with_line (n + 1) (line_words (part at end text)) (line_of (line_words (part at end text))) (plan_from (suc (n + 1)) (rest LF (drop end text)))
  unfolding plan_from
  line_first = rw first_line

  module _ {past : ℕ} (on : end < length text → past ≡ end + 1) (off : length text ≤ end → past ≡ end) where
    others : (x : Bool) → ltb end (length text) ≡ x → plan_from (suc (n + 1)) (rest LF (drop end text)) ≡ plan_from (n + 1 + 1) (lines_of (drop past text))
    unfolding plan_from parts before words_in line_of
    others true h = let g = ltb-true end (length text) h in rw (on g, drop-cons text end 0 g, add-one end, add-one (n + 1))
    others false h = let g = ltb-false end (length text) h in rw (off g, drop_past text end g)

    lines_left : plan_from (n + 1) (lines_of (drop at text))
        ≡ with_line (n + 1) (line_words (part at end text)) (line_of (line_words (part at end text))) (plan_from (n + 1 + 1) (lines_of (drop past text)))
    lines_left = rw (← (others (ltb end (length text)) refl)) line_first

  module _ {j : ℕ} {o o' o'' : List ℕ} {whole : Plan} {step : Result ℕ Wrong}
      (l : Laying (most_line * n) o o' j whole (plan_from (n + 1) (lines_of (drop at text))))
      (s : Stepped o' j o'' (line_words (part at end text)) step) where
    pub bad_line_found : {wrong : Wrong} → step ≡ Err wrong → whole ≡ bad (n + 1) wrong
    bad_line_found f =
        let g = at_stop (subst (λ (x : Result ℕ Wrong). Stepped o' j o'' (line_words (part at end text)) x) f s) in
        bad_line_left l (line_first ∙ rw g)

    pub line_put : {k past : ℕ} → step ≡ Ok k → (end < length text → past ≡ end + 1) → (length text ≤ end → past ≡ end)
        → Laying (most_line * (n + 1)) o o'' k whole (plan_from (n + 1 + 1) (lines_of (drop past text)))
    line_put {k} {past} f on off =
        let g = at_next (subst (λ (x : Result ℕ Wrong). Stepped o' j o'' (line_words (part at end text)) x) f s) in
        let m : most_line * n + most_line ≡ most_line * (n + 1) = omega arith in
        subst (λ (x : ℕ). Laying x o o'' k whole (plan_from (n + 1 + 1) (lines_of (drop past text)))) m
        (put_line_lem l (n + 1) (line_words (part at end text)) (line_of (line_words (part at end text))) (plan_from (n + 1 + 1) (lines_of (drop past text))) g (lines_left on off))

-- the end of a text: nothing, or a line without a word
pub text_ends : (text : List ℕ) (at n : ℕ) → length text ≤ at → plan_from n (lines_of (drop at text)) ≡ records []
unfolding plan_from parts before words_in line_of
text_ends text at n h = rw (drop_past text at h)

-- the answers
at_laid : {text o o' : List ℕ} {j : ℕ} → LaidOut text o o' (Ok j) → PutsPlan o o' j (plan_of text)
at_laid (laid p) = p

at_bad_line : {text o o' : List ℕ} {n : ℕ} {wrong : Wrong} → LaidOut text o o' (Err (record { line = n; wrong = wrong })) → plan_of text ≡ bad n wrong
at_bad_line (bad_line e) = e

stored_none : (o : List ℕ) → o ≡ stored o 0 []
stored_none o = stored_whole o 0 [] (omega arith)

pub too_long : (text o : List ℕ) → longest_plan < length text → (Err Long ≡ planned text (length o)) × (o ≡ stored o 0 (planned_bytes text))
unfolding planned planned_bytes
too_long text o h = rw (lt-leb (length text) longest_plan h) (refl, stored_none o)

-- a text of the records bs
module _ (text o : List ℕ) {bs : List ℕ} where
  -- what the second writing leaves, which has no bad line as the first had none
  second_bytes : plan_of text ≡ records bs → {o' : List ℕ} {r : Result ℕ BadLine} → LaidOut text o o' r → o' ≡ sets o 0 bs
  second_bytes e (laid p) = rw e at p.put.bytes
  second_bytes e (bad_line f) = let z : ◌≡◌ {A = ℕ} 0 1 = cc in absurd (omega arith)

  module _ (short : length text ≤ longest_plan) (e : plan_of text ≡ records bs) {j : ℕ} (size : j ≡ length bs) where
    no_room : length o < j → (Err (Room j) ≡ planned text (length o)) × (o ≡ stored o 0 (planned_bytes text))
    unfolding planned planned_bytes
    no_room h =
        rw (le-leb (length text) longest_plan short, e, lt-leb (length bs) (length o) (omega arith), ← size)
        (refl, stored_nothing o 0 bs (omega arith))

    written : {o' : List ℕ} → j ≤ length o → o' ≡ sets o 0 bs → (Ok j ≡ planned text (length o)) × (o' ≡ stored o 0 (planned_bytes text))
    unfolding planned planned_bytes
    written h f =
        rw (le-leb (length text) longest_plan short, e, le-leb (length bs) (length o) (omega arith), ← size)
        (refl, f ∙ stored_whole o 0 bs (omega arith))

module _ (text o : List ℕ) (short : length text ≤ longest_plan) {q q' : List ℕ} {r : Result ℕ BadLine} (first : LaidOut text q q' r) where
  pub answer_bad : {n : ℕ} {wrong : Wrong} → r ≡ Err (record { line = n; wrong = wrong })
      → (Err (Bad n wrong) ≡ planned text (length o)) × (o ≡ stored o 0 (planned_bytes text))
  unfolding planned planned_bytes
  answer_bad e =
      let g = at_bad_line (subst (λ (x : Result ℕ BadLine). LaidOut text q q' x) e first) in
      rw (le-leb (length text) longest_plan short, g) (refl, stored_none o)

  module _ {j : ℕ} (e : r ≡ Ok j) where
    first_plan : PutsPlan q q' j (plan_of text)
    first_plan = at_laid (subst (λ (x : Result ℕ BadLine). LaidOut text q q' x) e first)

    size : j ≡ length (plan_bytes (plan_of text))
    size = let p = first_plan.put.next in omega arith

    pub answer_room : length o < j → (Err (Room j) ≡ planned text (length o)) × (o ≡ stored o 0 (planned_bytes text))
    answer_room h = no_room text o short first_plan.whole size h

    pub answer_written : {o' : List ℕ} {r' : Result ℕ BadLine} → j ≤ length o → LaidOut text o o' r'
        → (Ok j ≡ planned text (length o)) × (o' ≡ stored o 0 (planned_bytes text))
    answer_written h s = written text o short first_plan.whole size h (second_bytes text o first_plan.whole s)

-- what is written fits: for those who take a part of the output
fits_by : (room size : ℕ) {j : ℕ} (x : Bool) → leb size room ≡ x → cond x (Ok size) (Err (Room size)) ≡ Ok j → j ≤ room
fits_by room size {j} true h e = let g : size ≡ j = cc in omega (arith, leb-true size room h)
fits_by room size {j} false h e = let z : ◌≡◌ {A = ℕ} 0 1 = cc in absurd (omega arith)

plan_fits : (room : ℕ) {j : ℕ} (plan : Plan) → plan_answer room plan ≡ Ok j → j ≤ room
plan_fits room (records bs) e = fits_by room (length bs) (leb (length bs) room) refl e
plan_fits room {j} (bad n wrong) e = let z : ◌≡◌ {A = ℕ} 0 1 = cc in absurd (omega arith)

short_fits : (room : ℕ) {j : ℕ} (plan : Plan) (x : Bool) → cond x (plan_answer room plan) (Err Long) ≡ Ok j → j ≤ room
short_fits room plan true e = plan_fits room plan e
short_fits room {j} plan false e = let z : ◌≡◌ {A = ℕ} 0 1 = cc in absurd (omega arith)

pub written_fits : (text : List ℕ) (room : ℕ) {j : ℕ} → planned text room ≡ Ok j → j ≤ room
unfolding planned
written_fits text room e = short_fits room (plan_of text) (leb (length text) longest_plan) e
