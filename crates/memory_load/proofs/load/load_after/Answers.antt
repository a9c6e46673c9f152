use Rattle.std.specs.Prelude.{Ok}
use mathlib.Core.Path.{refl, sym, ap, ◌∙◌}
use native.Mathlib.Omega.{arith}
use Rattle.emit.proofs.Wrote.{refused, ample_if, at_once}
use Rattle.memory.specs.Objects.{ext_in, load_object}
use Rattle.memory.proofs.Sizes.{object_size}
use Rattle.memory_bounds.proofs.LoadSizes.{load_within}
use Rattle.memory_load.proofs.load.load_after.Goals as goal

pub returns-then-not-load_fits : goal.returns-then-not-load_fits
returns-then-not-load_fits c = rw (← c.load_fits.ensures, c.if-not-load_fits.true) (refused refl refl refl)

pub load_object-q-requires : goal.load_object-q-requires
load_object-q-requires c =
    let w = c.requires in
    let a = c.args in
    let fit = ample_if a.counter _ _ _ c.load_ample.ensures c.if-load_ample.true in
    (w.2, sym c.load_fits.ensures ∙ c.if-not-load_fits.false, omega arith, omega (arith, fit.0), w.3)

pub returns-then-load_ample : goal.returns-then-load_ample
returns-then-load_ample c =
    let a = c.args in
    let w = c.requires in
    let ext = ext_in a.loaded.now a.v in
    let z = object_size a.g ext w.3 a.v a.n in
    let y = load_within a.g ext w.3 a.v a.n in
    let fit = ample_if a.counter _ _ _ c.load_ample.ensures c.if-load_ample.true in
    rw (← c.load_fits.ensures, c.if-not-load_fits.false)
    (at_once (load_object a.g ext a.v a.n) a.counter c.load_object-q.ensures refl refl (ap (λ w. Ok w) c.up_to.ensures)
    (omega (arith, fit.0, z.0)) (omega (arith, fit.1, y)))

pub load_sized-requires : goal.load_sized-requires
load_sized-requires c =
    let w = c.requires in
    (w.2, sym c.load_fits.ensures ∙ c.if-not-load_fits.false, w.3)

pub returns : goal.returns
returns c = rw (← c.load_fits.ensures, c.if-not-load_fits.false) c.load_sized.ensures
