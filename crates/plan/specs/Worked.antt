-- Worked lines: what they mean by the definitions that the contracts cite.
use Rattle.std.specs.Prelude.{◌≡◌, true, [], ◌∷◌, ◌++◌, Ok, Err}
use Rattle.records.specs.declared.binding.Kind.TheVariants.{Linked, Ext}
use Rattle.records.specs.declared.order.Calculation.TheVariants.{Sub}
use Rattle.records.specs.declared.order.Order.TheVariants.{Put, Compute, Store, Load, Print}
use Rattle.records.specs.Contexts.{binding_bytes}
use Rattle.records.specs.Orders.{record_of}
use Rattle.text.specs.Text.{ascii}
use Rattle.plan_line.specs.declared.wrong.Wrong.TheVariants.{NoSuchOrder, OutOfRange, NotNewline, MissingWord, SurplusWord}
use Rattle.plan.specs.declared.NotPlanned.TheVariants.{Bad, Room}
use Rattle.plan.specs.Plan.{planned, planned_bytes}

pub record WorkedLines : Type 0 where
  -- a negative value, in 24 bytes
  pub put : planned_bytes (ascii "put -250\n") ≡ 0xA8 ∷ 1 ∷ 0 ∷ 0 ∷ 0 ∷ 0 ∷ 0 ∷ 0 ∷ 0 ∷ 0 ∷ 0 ∷ 0 ∷ 0 ∷ 0 ∷ 0 ∷ 0 ∷ 6 ∷ 255 ∷ 255 ∷ 255 ∷ 255 ∷ 255 ∷ 255 ∷ 255 ∷ []
  pub lowest : planned_bytes (ascii "put -9223372036854775808") ≡ record_of (Put 0x8000_0000_0000_0000)
  pub below_lowest : planned (ascii "put -9223372036854775809") 24 ≡ Err (Bad 1 OutOfRange)
  -- blanks, CR, a comment, zeros in front; no newline at the end
  pub compute : planned_bytes (ascii "# reading less limit\r\n\tcompute sub  000 1 # in hPa\r\nprint 2 newline") ≡ record_of (Compute Sub 0 1) ++ record_of (Print true 2)
  -- the kinds of a load
  pub load : planned_bytes (ascii "store 2 tag 7\nload e l\n")
      ≡ record_of (Store 2 7) ++ record_of (Load 2) ++ binding_bytes (record { kind = Ext; id = 0 }) ++ binding_bytes (record { kind = Linked; id = 1 })
  pub room : planned (ascii "drop\ncopy 0 3\n") 47 ≡ Err (Room 48)
  pub written : planned (ascii "drop\ncopy 0 3\n") 48 ≡ Ok 48
  -- all lines are counted; the first wrong, missing or surplus word decides
  pub third : planned (ascii "put 1\n\npot 2\ndrop it\n") 96 ≡ Err (Bad 3 NoSuchOrder)
  pub missing : planned (ascii "copy 1") 96 ≡ Err (Bad 1 MissingWord)
  pub surplus : planned (ascii "put 1\ndrop it\n") 96 ≡ Err (Bad 2 SurplusWord)
  pub newline : planned (ascii "print 0 newlines and more") 96 ≡ Err (Bad 1 NotNewline)
  pub nothing : planned [] 0 ≡ Ok 0
