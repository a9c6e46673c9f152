-- The messages of bad lines. From docs/PLANNER.md, 'Messages'.
use Rattle.std.specs.Prelude.{ℕ, List, ◌++◌}
use Rattle.text.specs.Text.{ascii, decimal}
use Rattle.plan_line.specs.declared.wrong.Wrong.{Wrong}
use Rattle.plan_line.specs.declared.wrong.Wrong.TheVariants.{NoSuchOrder, NoSuchOperation, NotNumber, OutOfRange, NotTag, NotNewline, NotKind, TooManyKinds, MissingWord, SurplusWord}

abbrev pub wrong_words : Wrong → List ℕ
wrong_words NoSuchOrder = ascii "no such order"
wrong_words NoSuchOperation = ascii "no such operation"
wrong_words NotNumber = ascii "a number is expected"
wrong_words OutOfRange = ascii "a number is out of range"
wrong_words NotTag = ascii "tag is expected"
wrong_words NotNewline = ascii "newline is expected"
wrong_words NotKind = ascii "a kind, e or l, is expected"
wrong_words TooManyKinds = ascii "more than 4096 kinds"
wrong_words MissingWord = ascii "a word is missing"
wrong_words SurplusWord = ascii "a word too many"

-- as in 'line 3: no such order'
unfoldable pub message : ℕ → Wrong → List ℕ
message line wrong = ascii "line " ++ decimal line ++ ascii ": " ++ wrong_words wrong ++ ascii "\n"
