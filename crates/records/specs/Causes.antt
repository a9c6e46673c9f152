-- The causes of a refusal and their numbers, from the scope, 'Causes and numbers'. The one table of them: what gives an answer's number and values cites it.
-- Checked in rising order, but for 23, which comes first, and 15 to 17, which come next.
use Rattle.std.specs.Prelude.{ℕ}

-- the input is accepted
abbrev pub ACCEPTED : ℕ
ACCEPTED = 0

-- malformed instruction or order, field not zero, too many; heap not 2 to 1,048,576 whole blocks. With the record's place, 0 for the heap
abbrev pub MALFORMED : ℕ
MALFORMED = 2

-- register not 4..15, spill not 1 to the frame's last, field not of the edition's block, label no record may hold; no such frame
abbrev pub OPERAND : ℕ
OPERAND = 3

-- id or place not in context; a store's n above its length
abbrev pub MISSING : ℕ
MISSING = 4

-- wrong kind for the order
abbrev pub KIND : ℕ
KIND = 5

-- arguments above 5
abbrev pub ARGUMENTS : ℕ
ARGUMENTS = 6

-- share count or a copy's n above 2^31−1
abbrev pub COUNT : ℕ
COUNT = 7

-- a position past the frame's last needed
abbrev pub POSITION : ℕ
POSITION = 8

-- counter plus labels needed above 2^31−1
abbrev pub LABELS : ℕ
LABELS = 9

-- output too short; of two, the first named. With the bytes needed
abbrev pub ROOM : ℕ
ROOM = 10

-- machine fault within the limit. With the steps done before it and the record's place
abbrev pub FAULT : ℕ
FAULT = 11

-- step limit reached before the end. With the limit
abbrev pub LIMIT : ℕ
LIMIT = 12

-- context or bindings not whole records, or over 4,096. With place 0
abbrev pub CONTEXT_LENGTH : ℕ
CONTEXT_LENGTH = 15

-- the earliest bad binding's mark. With its place
abbrev pub BINDING_MARK : ℕ
BINDING_MARK = 16

-- the earliest bad binding's kind or zero byte. With its place
abbrev pub BINDING_KIND : ℕ
BINDING_KIND = 17

-- an edition other than 1 or 2
abbrev pub EDITION : ℕ
EDITION = 23
