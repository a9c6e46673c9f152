use mathlib.Core.Path.{◌≡◌, refl}
use native.Mathlib.Omega.{arith}
use Rattle.records.specs.Contexts.{ext_at}
use Rattle.print_i64.proofs.Sets.{set_next}
use Rattle.print_i64.proofs.registers.registers_to_save.Goals as goal

pub loop-v-init : goal.loop-v-init
loop-v-init c = refl

pub loop-v-preserved : goal.loop-v-preserved
loop-v-preserved c = let l = c.loop-v in rw (l.invariant, c.two_bits.ensures) (set_next (ext_at c.args.context.now) l.v (omega arith))

pub returns : goal.returns
returns c =
    let l = c.loop-v in
    let e : l.v ≡ c.min-v-end.result = omega arith in
    rw (← c.min-v-end.ensures, ← e) l.invariant
