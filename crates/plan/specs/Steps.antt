-- What the functions that put a line's and a text's records promise one another.
use Rattle.plan.specs.declared.lines.BadLine.{BadLine}
use Rattle.std.specs.Prelude.{ℕ, ◌≡◌, List, [], Err, Ok, None, Some, Result}
use Rattle.text.specs.Putting.{Puts}
use Rattle.plan_line.specs.declared.wrong.Wrong.{Wrong}
use Rattle.plan_line.specs.Orders.{Words, line_of, Line}
use Rattle.plan.specs.Plan.{Plan, records, bad, plan_records, plan_bytes, plan_of}

-- a bound on an order's records: its own and 2^32 bindings
abbrev pub most_line : ℕ
most_line = 0x8_0000_0018

-- a bound on a text's: those of 131,072 lines
abbrev pub most_text : ℕ
most_text = 0x10_0000_0030_0000

-- the records of a line that is not bad
abbrev pub PutsLine : List ℕ → ℕ → List ℕ → ℕ → Words → Line → Type 0
PutsLine o i o' j ws (Ok None) = Puts most_line o i o' j []
PutsLine o i o' j ws (Ok (Some order)) = Puts most_line o i o' j (plan_records order ws)
PutsLine o i o' j ws (Err wrong) = ⊥

-- a line that is put, or bad
pub data Stepped (o : List ℕ) (i : ℕ) (o' : List ℕ) (ws : Words) : Result ℕ Wrong → Type 0 where
  next : {j : ℕ} → PutsLine o i o' j ws (line_of ws) → Stepped o i o' ws (Ok j)
  stop : {wrong : Wrong} → line_of ws ≡ Err wrong → Stepped o i o' ws (Err wrong)

-- a text's records put from the output's start
pub record PutsPlan (o o' : List ℕ) (j : ℕ) (plan : Plan) : Type 0 where
  pub whole : plan ≡ records (plan_bytes plan)
  pub put : Puts most_text o 0 o' j (plan_bytes plan)

-- a text that is put, or has a bad line
pub data LaidOut (text o o' : List ℕ) : Result ℕ BadLine → Type 0 where
  laid : {j : ℕ} → PutsPlan o o' j (plan_of text) → LaidOut text o o' (Ok j)
  bad_line : {n : ℕ} {wrong : Wrong} → plan_of text ≡ bad n wrong → LaidOut text o o' (Err (record { line = n; wrong = wrong }))
