-- The words of a command line that choose an edition and a frame. `edition` and `frame` are each followed by a number; what is chosen holds for the files named after it.
use Rattle.std.specs.Prelude.{ℕ, Bool, ◌&&◌, cond, List, [], Option, None, Some}
use Rattle.std.specs.Option.{is_some}
use Rattle.text.specs.Text.{ascii}
use Rattle.plan_line.specs.Words.{same_bytes}
use Rattle.layout.specs.Config.{base, larger}
use Rattle.program_options.specs.declared.Next.{Next}
use Rattle.program_options.specs.declared.Next.TheVariants.{Any}
use Rattle.program_options.specs.declared.Next.TheVariants as next
use Rattle.program_options.specs.declared.Options.{Options}
use Rattle.program_options.specs.declared.Which.{Which}
use Rattle.program_options.specs.declared.Which.TheVariants.{First, Second}
use Rattle.program_options.specs.declared.Said.{Said}
use Rattle.program_options.specs.declared.Said.TheVariants.{NoEdition, NoFrame}

-- of a word that chooses: what is chosen after it, and what is to be said of that, if anything
abbrev pub Heard : Type 0
Heard = Option (Options × Option Said)

-- the first edition and the smaller frame, where no word chooses
abbrev pub at_first : Options
at_first = record { edition = Some 1; frame = Some base.spills; next = Any }

-- which of two words a word is, if either
unfoldable pub one_of_two : List ℕ → List ℕ → List ℕ → Option Which
one_of_two w first second = cond (same_bytes w first) (Some First) (cond (same_bytes w second) (Some Second) None)

-- the same with another edition, or another frame, before what comes next
abbrev pub with_edition : Options → Option ℕ → Next → Options
with_edition o edition next = record { edition = edition; frame = o.frame; next = next }

abbrev pub with_frame : Options → Option ℕ → Next → Options
with_frame o frame next = record { edition = o.edition; frame = frame; next = next }

-- the number that was to come: 1 or 2, 256 or 512
abbrev pub chosen_edition : Options → Option Which → Heard
chosen_edition o (Some First) = Some (with_edition o (Some 1) Any, None)
chosen_edition o (Some Second) = Some (with_edition o (Some 2) Any, None)
chosen_edition o None = Some (with_edition o None Any, Some NoEdition)

abbrev pub chosen_frame : Options → Option Which → Heard
chosen_frame o (Some First) = Some (with_frame o (Some base.spills) Any, None)
chosen_frame o (Some Second) = Some (with_frame o (Some larger.spills) Any, None)
chosen_frame o None = Some (with_frame o None Any, Some NoFrame)

-- `edition` or `frame`, which a number follows; until it comes there is none
abbrev pub chosen_any : Options → Option Which → Heard
chosen_any o (Some First) = Some (with_edition o None next.Edition, None)
chosen_any o (Some Second) = Some (with_frame o None next.Frame, None)
chosen_any o None = None

abbrev pub heard_as : Next → List ℕ → Options → Heard
heard_as Any w o = chosen_any o (one_of_two w (ascii "edition") (ascii "frame"))
heard_as next.Edition w o = chosen_edition o (one_of_two w (ascii "1") (ascii "2"))
heard_as next.Frame w o = chosen_frame o (one_of_two w (ascii "256") (ascii "512"))

abbrev pub heard : List ℕ → Options → Heard
heard w o = heard_as o.next w o

-- a number that no word gives is wrong too
abbrev pub missing : Next → Option Said
missing Any = None
missing next.Edition = Some NoEdition
missing next.Frame = Some NoFrame

abbrev pub still_to_come : Options → Option Said
still_to_come o = missing o.next

abbrev pub is_played : Options → Bool
is_played o = is_some o.edition && is_some o.frame

unfoldable pub said_words : Option Said → List ℕ
said_words None = []
said_words (Some NoEdition) = ascii "an edition is 1 or 2\n"
said_words (Some NoFrame) = ascii "a frame has 256 or 512 spills\n"
