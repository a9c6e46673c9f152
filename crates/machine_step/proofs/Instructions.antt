-- What a push, a call and a print do to the lent registers, stack and heap is their outcome, case by case.
use Prim.Native.Nat.{ℕ, zero, suc, ◌+◌, ◌%◌, ◌<◌, ◌≤◌}
use mathlib.Core.Path.{◌≡◌, refl, sym, ap, ◌∙◌}
use mathlib.Core.Bool.{Bool, true, false, true≢false, and-false}
use mathlib.Core.List.{List, [], ◌∷◌}
use native.Mathlib.Omega.{arith}
use lib.Dec.{eqb}
use Rattle.std.proofs.Common.{append_assoc}
use lib.ListN.{length, get_or, set, length-set, take, drop}
use lib.Seq.{drop-cons, drop-drop}
use borrow.Rule.Slice.PartMut.{put_mid}
use Rattle.std.proofs.lemmas.List.Edits.{sets, sets-eq}
use borrow.Author.Tests.{eq-eqb}
use Rattle.machine_step.specs.declared.instruction.Pair.{Pair}
use Rattle.machine_step.specs.declared.instruction.Went.{Went}
use Rattle.machine_step.specs.declared.instruction.Went.TheVariants.{Next, Called, Fault}
use Rattle.machine_step.specs.declared.instruction.Moved.{Moved}
use Rattle.machine_step.specs.View.{view, from_end, words_of, upd}
use Rattle.machine_step.specs.Memory.{store}
use Rattle.machine_step.specs.Step.{Config, config, Outcome, fault, push, is_print_name, after_print, call}
use Rattle.machine_step.specs.Forms.{Wrote, compared_of, Sized, Acts}
use Rattle.machine_step.proofs.Seeing.{words_set, view_reg}
use Rattle.word.specs.Words.{difference, signs, divides}

abbrev went : Went → Moved
went w = record { went = w; pair = record { made = 0; x = 0; y = 0 } }

abbrev kept : Went → Pair → Moved
kept w p = record { went = w; pair = p }

-- a divisor that divides is not zero
pub divisor_positive : (high low d : ℕ) → divides high low d ≡ true → 0 < d
unfolding divides
divisor_positive high low zero e = absurd (true≢false (sym e ∙ and-false (eqb high (signs low))))
divisor_positive high low (suc d) e = omega arith

-- the stack is as it was
stays : {R : List ℕ} (S : List ℕ) → length R ≡ 16 → Sized (length S) R S
stays S z = record { registers = z; stack = refl }

-- one register is set
sixteen : (R : List ℕ) (i v : ℕ) → length R ≡ 16 → length (set R i v) ≡ 16
sixteen R i v z = length-set R i v ∙ z

module _ (R S H : List ℕ) (p : Pair) (z : length R ≡ 16) where
  module _ (a : ℕ) where
    module _ {v : ℕ} {S' H' : List ℕ} {b : Bool} (o : v ≡ difference (get_or R 0 0) 8) (l : length S' ≡ length S)
        (w : (Q : List ℕ) → Wrote (view Q S H) (store (view Q S H) v (get_or R a 0)) (view Q S' H') b) where
      pub push_stops : b ≡ false → Acts R S H R S' H' p (kept Fault p) (push a)
      push_stops n =
          record {
            sized = record { registers = z; stack = l };
            goes = λ calls. ap (λ s. fault (config s (compared_of p) calls)) ((w R).kept n).1 ∙ rw (← o, ← (view_reg R S H 0 v (rw z (omega arith))), ((w (set R 0 v)).kept n).0);
          }

      pub push_goes : b ≡ true → Acts R S H (set R 0 v) S' H' p (went Next) (push a)
      push_goes t =
          record {
            sized = record { registers = sixteen R 0 v z; stack = l };
            goes = λ calls. rw (← o, ← (view_reg R S H 0 v (rw z (omega arith))), (w (set R 0 v)).made t);
          }

  module _ (words : ℕ → ℕ) (label : ℕ) {b : Bool} (e : b ≡ is_print_name label) where
    pub call_goes : {R' : List ℕ} → b ≡ true → get_or R 0 0 % 16 ≡ 0 → length R' ≡ 16 → view R' S H ≡ after_print words (view R S H)
        → Acts R S H R' S H p (went (Called label (get_or R 7 0))) (call words label)
    call_goes t n l v = record { sized = stays S l; goes = λ calls. rw (← e, t, eq-eqb (get_or R 0 0 % 16) 0 n, v) }

-- the same outcome by another name
pub goes_as : {R S H R' S' H' : List ℕ} {p : Pair} {m : Moved} {o o' : Config → Outcome} → ((c : Config) → o' c ≡ o c) → Acts R S H R' S' H' p m o → Acts R S H R' S' H' p m o'
goes_as e g = record { sized = g.sized; goes = λ calls. g.goes calls ∙ sym (e _) }

-- 16 registers and their words
pub record Shows (R : List ℕ) (f : ℕ → ℕ) : Type 0 where
  pub sized : length R ≡ 16
  pub words : words_of R ≡ f

also : {R : List ℕ} {f : ℕ → ℕ} (i v : ℕ) → i < 16 → Shows R f → Shows (set R i v) (upd f i v)
also {R} {f} i v h s = record { sized = length-set R i v ∙ s.sized; words = words_set R i v (rw s.sized h) ∙ ap (λ g. upd g i v) s.words }

lent : (R words : List ℕ) → length R ≡ 16 → Shows
    (set (set (set (set (set (set (set (set (set R 1 (get_or words 0 0)) 4 (get_or words 1 0)) 5 (get_or words 2 0)) 6 (get_or words 3 0)) 7 (get_or words 4 0)) 8 (get_or words 5 0)) 9 (get_or words 6 0)) 10 (get_or words 7 0)) 11 (get_or words 8 0))
    (after_print (words_of words) (view R [] [])).reg
lent R words l =
    also 11 _ (omega arith) (also 10 _ (omega arith) (also 9 _ (omega arith) (also 8 _ (omega arith) (also 7 _ (omega arith) (also 6 _ (omega arith) (also 5 _ (omega arith) (also 4 _ (omega arith) (also {R = R} 1 _ (omega arith) (record { sized = l; words = refl })))))))))

-- a part written is its words set one by one
pasted : (i : ℕ) (vs l : List ℕ) → i + length vs ≤ length l → put_mid i (length vs) l vs ≡ sets l i vs
pasted i vs l h = rw (sets-eq vs l i h) (simp (append_assoc, drop-drop))

-- the last eight of nine words
abbrev pub rest : List ℕ → List ℕ
rest l = get_or l 1 0 ∷ get_or l 2 0 ∷ get_or l 3 0 ∷ get_or l 4 0 ∷ get_or l 5 0 ∷ get_or l 6 0 ∷ get_or l 7 0 ∷ get_or l 8 0 ∷ []

pub the_rest : (l : List ℕ) → length l ≡ 9 → take 8 (drop 1 l) ≡ rest l
the_rest l e =
    rw (drop-cons l 1 0 (omega arith), drop-cons l 2 0 (omega arith), drop-cons l 3 0 (omega arith), drop-cons l 4 0 (omega arith), drop-cons l 5 0 (omega arith), drop-cons l 6 0 (omega arith), drop-cons l 7 0 (omega arith), drop-cons l 8 0 (omega arith))

-- the first word goes to register 1, the others to 4 to 11
pub copied : (R words : List ℕ) {part : List ℕ} → length R ≡ 16 → part ≡ rest words
    → Shows (put_mid 4 8 (set R 1 (get_or words 0 0)) part) (after_print (words_of words) (view R [] [])).reg
copied R words l e =
    let k : 12 ≤ length (set R 1 (get_or words 0 0)) = rw (sixteen R 1 (get_or words 0 0) l) (omega arith) in
    rw (e, pasted 4 (rest words) (set R 1 (get_or words 0 0)) k) (lent R words l)

pub lends : {R' : List ℕ} (R words : List ℕ) → Shows R' (after_print (words_of words) (view R [] [])).reg → (length R' ≡ 16) × ((S H : List ℕ) → view R' S H ≡ after_print (words_of words) (view R S H))
lends R words s = (s.sized, λ S H k. record { reg = s.words k; stk = from_end S; mem = words_of H; depth = length S; size = length H })
