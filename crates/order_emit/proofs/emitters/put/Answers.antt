use Rattle.order_emit.proofs.emitters.put.Goals as goal

pub returns : goal.returns
returns c = rw (← c.location_of-w.ensures.0) c.emit_load_immediate.ensures
