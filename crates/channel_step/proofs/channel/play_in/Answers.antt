use native.Mathlib.Omega.{arith}
use mathlib.Core.Path.{refl, sym, ap, ◌∙◌}
use Rattle.machine_step.specs.View.{words_of}
use Rattle.order_spec.specs.Answered.{order_accepted}
use Rattle.channel_step.specs.Playing.{channel_of, asking_on}
use Rattle.channel_step.proofs.Played.{depth_there, room_there, its_room, its_stack, in_shape_lem, refused_plays, records_there, bindings_there, accepted_plays_on}
use Rattle.channel_step.proofs.channel.play_in.Goals as goal

pub slice_bounds-after-end : goal.slice_bounds-after-end
slice_bounds-after-end c = room_there _ c.requires.1

pub slice_bounds-ask-end : goal.slice_bounds-ask-end
slice_bounds-ask-end c = sym (its_room _ c.requires.1)

pub returns-in_default : goal.returns-in_default
returns-in_default c =
    rw c.not_run.ensures (
      record { edition = refl; frame = refl },
      refused_plays _ _ _ (in_shape_lem c.requires.0 (its_room _ c.requires.1) c.ask-answer.ensures) (ap order_accepted c.in_default.is),
    )

pub slice_bounds-stack-end : goal.slice_bounds-stack-end
slice_bounds-stack-end c = let l = c.well_formed.1.0.1.1.1.1.1.1.1.0.1.0.1 in omega (arith, depth_there _ c.requires.1)

pub slice_bounds-run_records-end : goal.slice_bounds-run_records-end
slice_bounds-run_records-end c = sym (its_stack _ c.requires.1 _ c.well_formed.1.0.1.1.1.1.1.1.1.0.1.0.1)

pub run_records-ran-requires : goal.run_records-ran-requires
run_records-ran-requires c = let a = c.args in let q = asking_on a.g a.order.now a.bindings.now a.counter a.records_out.now in (records_there (channel_of a.g a.channel a.heap.now) q (words_of a.words) (in_shape_lem c.requires.0 (its_room _ c.requires.1) c.ask-answer.ensures) c.in-Ok.is refl, c.requires.1)

pub overflow_mul-result : goal.overflow_mul-result
overflow_mul-result c = let a = c.args in let q = asking_on a.g a.order.now a.bindings.now a.counter a.records_out.now in omega (arith, room_there _ c.requires.1, bindings_there (channel_of a.g a.channel a.heap.now) q (words_of a.words) (in_shape_lem c.requires.0 (its_room _ c.requires.1) c.ask-answer.ensures) c.in-Ok.is refl)

pub returns : goal.returns
returns c = let l = c.run_records-ran.new in let a = c.args in let q = asking_on a.g a.order.now a.bindings.now a.counter a.records_out.now in (record { edition = refl; frame = refl }, accepted_plays_on (channel_of a.g a.channel a.heap.now) q (words_of a.words) (in_shape_lem c.requires.0 (its_room _ c.requires.1) c.ask-answer.ensures) c.in-Ok.is refl (its_room _ c.requires.1) _ _ l.registers l.stack l.heap (c.stack-3-1.given ∙ its_stack _ c.requires.1 _ c.well_formed.1.0.1.1.1.1.1.1.1.0.1.0.1) c.run_records-ran.ensures)
