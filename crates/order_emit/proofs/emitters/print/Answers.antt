use Rattle.order_emit.proofs.emitters.print.Goals as goal

pub returns : goal.returns
returns c = rw (← c.location_of-w.ensures.0) c.emit_print_i64.ensures
