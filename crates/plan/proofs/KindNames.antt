-- The kind that a word names, told by its byte.
use Prim.Native.Nat.{ℕ}
use mathlib.Core.Path.{◌≡◌, refl}
use mathlib.Core.List.{List}
use Rattle.records.specs.declared.binding.Kind.TheVariants.{Linked, Ext}
use Rattle.text.specs.Text.{ascii}
use Rattle.plan_line.specs.Words.{same_bytes}
use Rattle.plan_line.proofs.Names.{Reads, reads, other}
use Rattle.plan.specs.Plan.{kind_of_word}

pub is_ext : (w : List ℕ) → Reads w (ascii "e") → Ext ≡ kind_of_word w
unfolding kind_of_word same_bytes
is_ext w h = rw (reads (ascii "e") h)

pub is_linked : (w : List ℕ) → ¬ (Reads w (ascii "e")) → Linked ≡ kind_of_word w
unfolding kind_of_word
is_linked w h = rw (other w (ascii "e") (refl, (refl, tt)) h)
