use borrow.Author.Rules.{rules}
use Rattle.plan.specs.Messages.{message}
use Rattle.text.proofs.Putting.{◌⨟◌}
use Rattle.plan.proofs.messages.put_message.Goals as goal

pub put_bytes-number-requires : goal.put_bytes-number-requires
unfolding message
put_bytes-number-requires c = search rules

pub put_decimal-colon-requires : goal.put_decimal-colon-requires
unfolding message
put_decimal-colon-requires c = search rules

pub put_bytes-cause-requires : goal.put_bytes-cause-requires
unfolding message
put_bytes-cause-requires c = search rules

pub put_cause-end-requires : goal.put_cause-end-requires
unfolding message
put_cause-end-requires c = search rules

pub put_byte-requires : goal.put_byte-requires
unfolding message
put_byte-requires c = search rules

pub returns : goal.returns
unfolding message
returns c = c.put_bytes-number.ensures ⨟ c.put_decimal-colon.ensures ⨟ c.put_bytes-cause.ensures ⨟ c.put_cause-end.ensures ⨟ c.put_byte.ensures
