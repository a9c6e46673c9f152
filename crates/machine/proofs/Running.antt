-- The loop of a run: what is left from here is what was to do from the start, turn by turn and at each end.
use Rattle.std.specs.Prelude.{Ok, Err, None, Some, Option}
use Prim.Native.Nat.{ℕ, zero, suc, ◌+◌, ◌-◌, ◌*◌, ◌≤◌, ◌<◌}
use mathlib.Core.Path.{◌≡◌, refl, sym, ap, ◌∙◌}
use mathlib.Core.Bool.{true}
use mathlib.Core.List.{List, [], ◌∷◌, ◌++◌}
use mathlib.Core.Option.{none, some}
use native.Mathlib.Nat.{sub-zero}
use native.Mathlib.Numerals.{add-one}
use native.Mathlib.Omega.{arith}
use lib.ListN.{drop, get_elem?}
use lib.Seq.{drop-drop}
use Rattle.records.specs.declared.code.Code.{Code}
use Rattle.records.specs.declared.code.Fields.{Fields}
use Rattle.records.specs.Codes.{code_of}
use Rattle.records.specs.Instructions.{fields_in, fields_ok}
use Rattle.records.specs.ReadBack.{code_in}
use Rattle.records.proofs.CodesRead.{starts_ok}
use Rattle.machine_step.specs.declared.instruction.Pair.{Pair}
use Rattle.machine_step.specs.declared.instruction.Went.{Went}
use Rattle.machine_step.specs.declared.instruction.Went.TheVariants.{Next, Called, Jump, End, Fault}
use Rattle.machine_step.specs.declared.instruction.Moved.{Moved}
use Rattle.machine_step.specs.View.{View, view}
use Rattle.machine_step.specs.Step.{Call, Config, config, outcome_of, step}
use Rattle.machine_step.specs.Forms.{compared_of, Acts}
use Rattle.machine_step.proofs.Flow.{jump_keeps}
use Rattle.machine.specs.declared.run.Stop.TheVariants as answer
use Rattle.machine.specs.declared.run.Turn.{Turn}
use Rattle.machine.specs.declared.run.Turn.TheVariants as turn
use Rattle.machine.specs.Run.{Done, done, on_found, find, follow, runs, codes_of, started, RunAnswer}
use Rattle.machine.specs.Loop.{ListedCodes, turn_to, turn_of, Turns, EndsBy}

pub listed_ok : {s : List ℕ} {n k : ℕ} {f : Fields} → ListedCodes s n → k < n → f ≡ fields_in (drop (24 * k) s) → fields_ok f ≡ true
listed_ok {k} z h e = rw e (starts_ok _ (z.starts k h))

-- record k of n in the bytes s
code_at : (n k : ℕ) (s : List ℕ) → k < n → get_elem? (codes_of n s) k ≡ some (code_in (drop (24 * k) s))
code_at zero k s h = absurd (omega arith)
code_at (suc n) zero s h = refl
code_at (suc n) (suc k) s h =
    let j : 24 + 24 * k ≡ 24 * suc k = omega arith in
    code_at n k (drop 24 s) (omega arith) ∙ ap (λ t. some (code_in t)) (drop-drop (24 * k) 24 s ∙ ap (λ i. drop i s) j)

code_past : (n k : ℕ) (s : List ℕ) → n ≤ k → get_elem? (codes_of n s) k ≡ none
code_past zero k s h = refl
code_past (suc n) zero s h = absurd (omega arith)
code_past (suc n) (suc k) s h = code_past n k (drop 24 s) (omega arith)

pub unlike : {A : Type 0} → ◌≡◌ {A = ℕ} 0 1 → A
unlike e = absurd (omega arith)

-- what follows a record's answer w, with the state t, the pair q and the calls made before it
module _ (p : List Code) (n i : ℕ) (c : Config) (go : ℕ → Config → Done) (t : View) (q : Option (ℕ × ℕ)) (calls : List Call) where
  follow_to : (w : Went) {j : ℕ} → turn_of p i w ≡ turn.To j → (made : List Call) × (follow p n i c go (outcome_of w t q calls) ≡ go j (config t q made))
  follow_to Next e = (calls, ap (λ k. go k (config t q calls)) (cc))
  follow_to (Called name number) e = (calls ++ (record { name = name; number = number } ∷ []), ap (λ k. go k (config t q (calls ++ (record { name = name; number = number } ∷ [])))) (cc))
  follow_to (Jump label) {j} e = (calls, at (find label p) e)
    where
      at : (f : Option ℕ) → turn_to f ≡ turn.To j → on_found f (done (Err (answer.Fault n (suc i))) c) (λ k. go k (config t q calls)) ≡ go j (config t q calls)
      at (Some k) e = ap (λ k. go k (config t q calls)) (cc)
      at None e = unlike (cc)
  follow_to End e = unlike (cc)
  follow_to Fault e = unlike (cc)

  follow_end : (w : Went) → turn_of p i w ≡ turn.End → follow p n i c go (outcome_of w t q calls) ≡ done (Ok (suc n)) (config t q calls)
  follow_end Next e = unlike (cc)
  follow_end (Called name number) e = unlike (cc)
  follow_end (Jump label) e = at (find label p) e
    where
      at : (f : Option ℕ) → turn_to f ≡ turn.End → on_found f (done (Err (answer.Fault n (suc i))) c) (λ k. go k (config t q calls)) ≡ done (Ok (suc n)) (config t q calls)
      at (Some k) e = unlike (cc)
      at None e = unlike (cc)
  follow_end End e = refl
  follow_end Fault e = unlike (cc)

  follow_fault : (w : Went) → turn_of p i w ≡ turn.Fault → ((label : ℕ) → w ≡ Jump label → t ≡ c.state)
      → (d : Config) × (follow p n i c go (outcome_of w t q calls) ≡ done (Err (answer.Fault n (suc i))) d) × (t ≡ d.state)
  follow_fault Next e k = unlike (cc)
  follow_fault (Called name number) e k = unlike (cc)
  follow_fault (Jump label) e k = (c, at (find label p) e, k label refl)
    where
      at : (f : Option ℕ) → turn_to f ≡ turn.Fault → on_found f (done (Err (answer.Fault n (suc i))) c) (λ k. go k (config t q calls)) ≡ done (Err (answer.Fault n (suc i))) c
      at (Some k) e = unlike (cc)
      at None e = refl
  follow_fault End e k = unlike (cc)
  follow_fault Fault e k = (config t q calls, refl, refl)

-- what is seen as v, with the last compare q, where n records of s are at a place after so many steps, and the whole run is d
pub record Going (words : ℕ → ℕ) (s : List ℕ) (n limit : ℕ) (d : Done) (v : View) (q : Option (ℕ × ℕ)) (place steps : ℕ) : Type 0 where
  pub within : steps ≤ limit
  pub calls : List Call
  pub left : d ≡ runs words (codes_of n s) (limit - steps) steps place (config v q calls)

ends : {v : View} {a : RunAnswer} {d : Done} (c : Config) → d ≡ done a c → v ≡ c.state → EndsBy v a d
ends c e k = record { answer = sym (ap (λ x. x.answer) e); last = k ∙ sym (ap (λ x. x.last.state) e) }

module _ (words : ℕ → ℕ) (s : List ℕ) (n : ℕ) where
  -- what a record does on lent arrays is one step
  pub turned : {place : ℕ} {f : Fields} {R S H R' S' H' : List ℕ} {p : Pair} {m : Moved} {t : Turn} → f ≡ fields_in (drop (24 * place) s)
      → Acts R S H R' S' H' p m (step words (code_of f)) → t ≡ turn_of (codes_of n s) place m.went
      → Turns words n s place (view R S H) (compared_of p) (view R' S' H') (compared_of m.pair) t
  turned {R} {S} {H} {p} {m} e o u =
      record { went = m.went; goes = λ calls. o.goes calls ∙ ap (λ y. step words (code_of y) (config (view R S H) (compared_of p) calls)) e; turn = u }

module _ (words : ℕ → ℕ) (s : List ℕ) (n limit : ℕ) where
  pub going_first : (v : View) → Going words s n limit (started words (codes_of n s) limit v) v None 0 0
  going_first v = record { within = omega arith; calls = []; left = rw sub-zero }

  module _ {d : Done} {v : View} {q : Option (ℕ × ℕ)} {place steps : ℕ} (g : Going words s n limit d v q place steps) where
    pub going_limit : place < n → limit ≤ steps → EndsBy v (Err (answer.Limit limit)) d
    unfolding runs
    going_limit h l =
        let e : limit - steps ≡ 0 = omega arith in
        let k : steps ≡ limit = omega arith in
        ends (config v q g.calls) (g.left ∙ rw (e, code_at n place s h, k)) refl

    past : (k : ℕ) (c : Config) → n ≤ place → runs words (codes_of n s) k steps place c ≡ done (Ok steps) c
    unfolding runs
    past zero c h = rw (code_past n place s h)
    past (suc k) c h = rw (code_past n place s h)

    pub going_past : n ≤ place → EndsBy v (Ok steps) d
    going_past h = ends _ (g.left ∙ past (limit - steps) _ h) refl

    pub going_through : n ≤ place → limit ≤ steps → EndsBy v (Ok limit) d
    going_through h l = let k : steps ≡ limit = omega arith in rw (← k) (going_past h)

    module _ {v' : View} {q' : Option (ℕ × ℕ)} {t : Turn} (h : place < n) (l : steps < limit) (o : Turns words n s place v q v' q' t) where
      abbrev after : ℕ → Config → Done
      after j c = runs words (codes_of n s) (limit - suc steps) (suc steps) j c

      before : Config
      before = config v q g.calls

      stepped : step words (code_in (drop (24 * place) s)) before ≡ outcome_of o.went v' q' g.calls
      unfolding before
      stepped = sym (o.goes g.calls)

      one : d ≡ follow (codes_of n s) steps place before after (outcome_of o.went v' q' g.calls)
      unfolding runs before
      one = let k : limit - steps ≡ suc (limit - suc steps) = omega arith in g.left ∙ rw (k, code_at n place s h, stepped)

      pub going_on : {j : ℕ} → t ≡ turn.To j → Going words s n limit d v' q' j (steps + 1)
      going_on k =
          let x = follow_to (codes_of n s) steps place before after v' q' g.calls o.went (sym o.turn ∙ k) in
          record { within = omega arith; calls = x.0; left = rw add-one (one ∙ x.1) }

      pub going_ended : t ≡ turn.End → EndsBy v' (Ok (steps + 1)) d
      going_ended k = rw add-one (ends _ (one ∙ follow_end (codes_of n s) steps place before after v' q' g.calls o.went (sym o.turn ∙ k)) refl)

      still : (label : ℕ) → o.went ≡ Jump label → v' ≡ before.state
      unfolding before
      still label w = jump_keeps before words (code_in (drop (24 * place) s)) (stepped ∙ ap (λ y. outcome_of y v' q' g.calls) w)

      pub going_faulted : t ≡ turn.Fault → EndsBy v' (Err (answer.Fault steps (place + 1))) d
      going_faulted k =
          let x = follow_fault (codes_of n s) steps place before after v' q' g.calls o.went (sym o.turn ∙ k) still in
          rw add-one (ends x.0 (one ∙ x.1) x.2)
