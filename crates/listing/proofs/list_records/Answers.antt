use Rattle.std.proofs.Common.{sym, ◌∙◌}
use Rattle.listing.proofs.Whole.{handed_on, refused, too_short, listed}
use Rattle.listing.proofs.list_records.Goals as goal

pub returns-in_err-count : goal.returns-in_err-count
returns-in_err-count c =
    let all = refused _ _ _ (sym c.check_codes.ensures.answer ∙ c.in_err-count.was) in
    rw (handed_on c.from_residual.result c.from_residual.ensures.1) (record { answer = all.0; written = all.1 })

pub put_listing-size-requires : goal.put_listing-size-requires
put_listing-size-requires c = sym c.check_codes.ensures.answer ∙ c.in_ok-count.was

pub returns-then-text-size : goal.returns-then-text-size
returns-then-text-size c = let all = too_short _ _ _ (sym c.check_codes.ensures.answer ∙ c.in_ok-count.was) c.put_listing-size.ensures c.if-text-size.true in record { answer = all.0; written = all.1 }

pub put_listing-requires : goal.put_listing-requires
put_listing-requires c = sym c.check_codes.ensures.answer ∙ c.in_ok-count.was

pub returns : goal.returns
returns c = let all = listed _ _ _ (sym c.check_codes.ensures.answer ∙ c.in_ok-count.was) c.put_listing-size.ensures c.if-text-size.false c.put_listing.ensures in record { answer = all.0; written = all.1 }
