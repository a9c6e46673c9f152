use mathlib.Core.Path.{refl, sym, ◌∙◌}
use Rattle.emit.proofs.Wrote.{refused}
use Rattle.layout.proofs.Placing.{framed_supported}
use Rattle.print_i64.proofs.code.print_i64.Goals as goal

pub print_i64_in-requires : goal.print_i64_in-requires
print_i64_in-requires c = framed_supported _ (sym c.frame_of.ensures ∙ c.in-Some.is)

pub returns : goal.returns
returns c = rw (sym c.frame_of.ensures ∙ c.in-Some.is) c.print_i64_in.ensures

pub returns-in_default : goal.returns-in_default
returns-in_default c = rw (sym c.frame_of.ensures ∙ c.in_default.is) (refused c.unframed.ensures.0 refl c.unframed.ensures.1)
