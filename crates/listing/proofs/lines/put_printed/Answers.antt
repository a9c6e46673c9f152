use Rattle.std.proofs.Common.{arith, sym, ◌∙◌}
use Rattle.text.proofs.Putting.{at_most}
use Rattle.listing.proofs.Whole.{printed_listing_lem, printed_refusal}
use Rattle.listing.proofs.lines.put_printed.Goals as goal

pub put_listing-requires : goal.put_listing-requires
put_listing-requires c = sym c.check_codes.ensures.answer ∙ c.in-Ok.is

pub returns-in-Ok : goal.returns-in-Ok
returns-in-Ok c = printed_listing_lem _ _ (sym c.check_codes.ensures.answer ∙ c.in-Ok.is) c.put_listing.ensures

pub returns-in-Err : goal.returns-in-Err
returns-in-Err c = printed_refusal _ _ (sym c.check_codes.ensures.answer ∙ c.in-Err.is) (at_most c.put_refusal.ensures (omega arith))
