-- The records of a plan, read back.
use Rattle.std.specs.Prelude.{Err, Ok, None, Some}
use Prim.Native.Nat.{ℕ, suc, ◌+◌, ◌≤◌}
use mathlib.Core.Path.{◌≡◌, refl, sym, ap, ◌∙◌}
use mathlib.Core.List.{List, [], ◌∷◌, ◌++◌}
use native.Mathlib.Omega.{arith}
use lib.ListN.{length, take, drop}
use lib.Seq.{take_at, drop_at, length-take-le}
use Rattle.records.specs.declared.binding.Binding.{Binding}
use Rattle.records.specs.declared.order.Order.{Order}
use Rattle.records.specs.declared.order.Order.TheVariants.{Put, Compute, Copy, Drop, Store, Load, Print}
use Rattle.records.specs.Contexts.{binding_bytes, checked_context}
use Rattle.records.specs.Orders.{order_fields_of, order_bytes, wanted}
use Rattle.records.specs.ReadBack.{Each, joined, WellFormedBinding}
use Rattle.records.proofs.ReadBack.{records_read_back}
use Rattle.plan_line.specs.Words.{lines_of}
use Rattle.plan_line.specs.Orders.{Words, line_of, Line}
use Rattle.plan.specs.Plan.{kind_of_word, bindings, following, plan_records, Plan, records, bad, with_line, line_words, plan_from, plan_of}
use Rattle.plan.specs.Reading.{AskedLine, asked_by, asked_in, records_for, IsRead, PlansAreRead}
use Rattle.plan.proofs.Putting.{order_size}
use Rattle.plan.proofs.WellFormed.{Sound, SoundLine, line_sound}

-- the bindings of kinds as a list
kind_bindings : ℕ → Words → List Binding
kind_bindings i [] = []
kind_bindings i (w ∷ ws) = record { kind = kind_of_word w; id = i } ∷ kind_bindings (suc i) ws

bindings_joined : (i : ℕ) (ws : Words) → bindings i ws ≡ joined binding_bytes (kind_bindings i ws)
unfolding bindings kind_bindings
bindings_joined i [] = refl
bindings_joined i (w ∷ ws) = ap (λ (l : List ℕ). binding_bytes (record { kind = kind_of_word w; id = i }) ++ l) (bindings_joined (suc i) ws)

bindings_many : (i : ℕ) (ws : Words) → length (kind_bindings i ws) ≡ length ws
unfolding kind_bindings
bindings_many i [] = refl
bindings_many i (w ∷ ws) = ap suc (bindings_many (suc i) ws)

ids_fit : (i : ℕ) (ws : Words) → i + length ws ≤ 4096 → Each WellFormedBinding (kind_bindings i ws)
unfolding kind_bindings
ids_fit i [] h = tt
ids_fit i (w ∷ ws) h = (omega arith, ids_fit (suc i) ws (omega arith))

-- as many as there are kinds
accepted : (ws : Words) → length ws ≤ 4096 → checked_context (bindings 0 ws) ≡ Ok (length ws)
accepted ws h =
    let many = bindings_many 0 ws in
    rw (bindings_joined 0 ws) (records_read_back.context_accepted (kind_bindings 0 ws) (ids_fit 0 ws (omega arith)) (omega arith) ∙ ap Ok many)

none_accepted : checked_context [] ≡ Ok 0
none_accepted = records_read_back.context_accepted [] tt (omega arith)

following_accepted : (ws : Words) (o : Order) → wanted o ≤ length (drop 1 ws) → wanted o ≤ 4096 → checked_context (following o ws) ≡ Ok (wanted o)
following_accepted ws (Load n) h g =
    let e = length-take-le n (drop 1 ws) h in
    accepted (take n (drop 1 ws)) (omega arith) ∙ ap Ok e
following_accepted ws (Put v) h g = none_accepted
following_accepted ws (Compute operation a b) h g = none_accepted
following_accepted ws (Copy a n) h g = none_accepted
following_accepted ws Drop h g = none_accepted
following_accepted ws (Store n tag) h g = none_accepted
following_accepted ws (Print newline a) h g = none_accepted

sound_read : (ws : Words) (o : Order) → Sound ws o → IsRead (record { order = o; words = ws })
unfolding plan_records
sound_read ws o s =
    record {
      order_reads = rw (take_at (order_bytes (order_fields_of o)) (following o ws) 24 (order_size o)) (records_read_back.order_reads o s.formed);
      bindings_accepted = rw (drop_at (order_bytes (order_fields_of o)) (following o ws) 24 (order_size o)) (following_accepted ws o s.enough s.few);
    }

one_read : (ws : Words) (x : Line) (rest : List AskedLine) → SoundLine ws x → Each IsRead rest → Each IsRead (asked_by ws x rest)
one_read ws (Ok None) rest s h = h
one_read ws (Ok (Some o)) rest s h = (sound_read ws o s, h)
one_read ws (Err wrong) rest s h = h

all_read : (ls : List (List ℕ)) → Each IsRead (asked_in ls)
unfolding asked_in
all_read [] = tt
all_read (l ∷ ls) = one_read (line_words l) (line_of (line_words l)) (asked_in ls) (line_sound (line_words l)) (all_read ls)

-- one line's records in front of the others'
one_joined : (n : ℕ) (ws : Words) (x : Line) (rest : Plan) (others : List AskedLine)
    → ((bs : List ℕ) → rest ≡ records bs → bs ≡ joined records_for others)
    → (bs : List ℕ) → with_line n ws x rest ≡ records bs → bs ≡ joined records_for (asked_by ws x others)
one_joined n ws (Ok None) rest others h bs e = h bs e
one_joined n ws (Ok (Some o)) (records cs) others h bs e =
    let g : plan_records o ws ++ cs ≡ bs = cc in
    sym g ∙ ap (λ (l : List ℕ). plan_records o ws ++ l) (h cs refl)
one_joined n ws (Ok (Some o)) (bad m wrong) others h bs e = let z : ◌≡◌ {A = ℕ} 0 1 = cc in absurd (omega arith)
one_joined n ws (Err wrong) rest others h bs e = let z : ◌≡◌ {A = ℕ} 0 1 = cc in absurd (omega arith)

all_joined : (n : ℕ) (ls : List (List ℕ)) (bs : List ℕ) → plan_from n ls ≡ records bs → bs ≡ joined records_for (asked_in ls)
unfolding plan_from asked_in
all_joined n [] bs e = let g : [] ≡ bs = cc in sym g
all_joined n (l ∷ ls) bs e =
    one_joined n (line_words l) (line_of (line_words l)) (plan_from (suc n) ls) (asked_in ls) (all_joined (suc n) ls) bs e

pub plans_are_read : PlansAreRead
unfolding plan_of
plans_are_read = record { records_joined = λ text bs e. all_joined 1 (lines_of text) bs e; each_read = λ text. all_read (lines_of text) }
