-- The records of a text, and what `plan` answers. From docs/PLANNER.md, 'The planner's text'.
use Rattle.plan.specs.declared.NotPlanned.{NotPlanned}
use Rattle.std.specs.Prelude.{ℕ, suc, cond, List, [], ◌∷◌, ◌++◌, leb, length, take, drop, Ok, Err, None, Some, Result}
use Rattle.records.specs.declared.binding.Kind.{Kind}
use Rattle.records.specs.declared.binding.Kind.TheVariants.{Linked, Ext}
use Rattle.records.specs.declared.order.Order.{Order}
use Rattle.records.specs.declared.order.Order.TheVariants.{Put, Compute, Copy, Drop, Store, Load, Print}
use Rattle.records.specs.Contexts.{binding_bytes}
use Rattle.records.specs.Orders.{record_of}
use Rattle.text.specs.Text.{ascii}
use Rattle.plan_line.specs.declared.wrong.Wrong.{Wrong}
use Rattle.plan_line.specs.Words.{same_bytes, lines_of, uncommented, words_in}
use Rattle.plan_line.specs.Orders.{Words, line_of, Line}
use Rattle.plan.specs.declared.NotPlanned.TheVariants.{Bad, Room, Long}

-- e is an integer, l is linked
unfoldable pub kind_of_word : List ℕ → Kind
kind_of_word w = cond (same_bytes w (ascii "e")) Ext Linked

-- the bindings of kinds, with ids from i on
unfoldable pub bindings : ℕ → Words → List ℕ
bindings i [] = []
bindings i (w ∷ ws) = binding_bytes (record { kind = kind_of_word w; id = i }) ++ bindings (suc i) ws

-- the bindings that follow an order: those of a load's n kinds
abbrev pub following : Order → Words → List ℕ
following (Load n) ws = bindings 0 (take n (drop 1 ws))
following (Put v) ws = []
following (Compute operation a b) ws = []
following (Copy a n) ws = []
following Drop ws = []
following (Store n tag) ws = []
following (Print newline a) ws = []

-- an order's records
unfoldable pub plan_records : Order → Words → List ℕ
plan_records o ws = record_of o ++ following o ws

-- the records of a text, or its first bad line
pub data Plan : Type 0 where
  records : List ℕ → Plan
  bad : ℕ → Wrong → Plan

-- records in front of a plan's
abbrev pub onto_plan : List ℕ → Plan → Plan
onto_plan bs (records cs) = records (bs ++ cs)
onto_plan bs (bad n wrong) = bad n wrong

-- line n before the lines that follow it
abbrev pub with_line : ℕ → Words → Line → Plan → Plan
with_line n ws (Ok None) rest = rest
with_line n ws (Ok (Some o)) rest = onto_plan (plan_records o ws) rest
with_line n ws (Err wrong) rest = bad n wrong

-- the words of a line, without its comment
abbrev pub line_words : List ℕ → Words
line_words line = words_in (uncommented line)

-- lines from number n on
unfoldable pub plan_from : ℕ → List (List ℕ) → Plan
plan_from n [] = records []
plan_from n (l ∷ ls) = with_line n (line_words l) (line_of (line_words l)) (plan_from (suc n) ls)

unfoldable pub plan_of : List ℕ → Plan
plan_of text = plan_from 1 (lines_of text)

-- a text has at most so many bytes
abbrev pub longest_plan : ℕ
longest_plan = 131072

abbrev pub plan_answer : ℕ → Plan → Result ℕ NotPlanned
plan_answer room (records bs) = cond (leb (length bs) room) (Ok (length bs)) (Err (Room (length bs)))
plan_answer room (bad n wrong) = Err (Bad n wrong)

abbrev pub plan_bytes : Plan → List ℕ
plan_bytes (records bs) = bs
plan_bytes (bad n wrong) = []

-- what is answered where the output has room for so many bytes
unfoldable pub planned : List ℕ → ℕ → Result ℕ NotPlanned
planned text room = cond (leb (length text) longest_plan) (plan_answer room (plan_of text)) (Err Long)

-- what is written: nothing for a text that is too long or has a bad line
unfoldable pub planned_bytes : List ℕ → List ℕ
planned_bytes text = cond (leb (length text) longest_plan) (plan_bytes (plan_of text)) []
