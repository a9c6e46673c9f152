use Prim.Native.Nat.{◌-◌}
use Rattle.std.specs.Prelude.{Ok}
use mathlib.Core.Path.{refl, sym, ap, ◌∙◌}
use native.Mathlib.Omega.{arith}
use Rattle.records.proofs.ContextsRead.{context_within}
use Rattle.emit.proofs.Wrote.{refused, ample_if, at_once}
use Rattle.memory.specs.Objects.{ext_in, store_object}
use Rattle.memory.proofs.Sizes.{store_object_size}
use Rattle.memory_bounds.proofs.StoreSizes.{store_linked}
use Rattle.memory_store.proofs.Answering.{answers_as, missing, no_position, tree, stored, fits}
use Rattle.memory_store.proofs.store.store_last.Goals as goal

pub returns-then-k-n : goal.returns-then-k-n
returns-then-k-n c =
    let a = c.args in
    refused (missing a.g a.counter _ a.context.now a.k a.n c.requires.0 c.if-k-n.true) refl refl

pub store_fits-requires : goal.store_fits-requires
store_fits-requires c = ((context_within c.args.context.now _ c.requires.0).0, c.requires.1)

pub returns-then-not-store_fits : goal.returns-then-not-store_fits
returns-then-not-store_fits c =
    let a = c.args in
    refused (no_position a.g a.counter _ a.context.now a.k a.n c.requires.0 c.if-k-n.false (sym c.store_fits.ensures ∙ c.if-not-store_fits.true)) refl refl

pub store_ample-requires : goal.store_ample-requires
store_ample-requires c =
    let w = context_within c.args.context.now _ c.requires.0 in
    (omega (arith, w.0, c.if-k-n.false), omega arith, c.requires.1)

pub store_object-q-requires : goal.store_object-q-requires
store_object-q-requires c =
    let a = c.args in
    let w = context_within a.context.now _ c.requires.0 in
    let placed = fits a.g c.requires.1 a.k a.n c.if-k-n.false (sym c.store_fits.ensures ∙ c.if-not-store_fits.false) in
    let fit = ample_if _ _ _ _ c.store_ample.ensures c.if-store_ample.true in
    (omega (arith, w.1, c.if-k-n.false), placed, omega arith, omega (arith, fit.0), c.requires.1)

pub returns-then-store_ample : goal.returns-then-store_ample
returns-then-store_ample c =
    let a = c.args in
    let s = a.context.now in
    let e = sym c.store_fits.ensures ∙ c.if-not-store_fits.false in
    let t = store_object a.g (ext_in s 0) (a.k - a.n) a.n in
    let z = store_object_size a.g (ext_in s 0) c.requires.1 (a.k - a.n) a.n in
    let y = store_linked a.g (ext_in s 0) (a.k - a.n) a.n in
    let fit = ample_if _ _ _ _ c.store_ample.ensures c.if-store_ample.true in
    answers_as a.counter (stored a.g a.counter _ s a.k a.n c.requires.0 c.if-k-n.false e) (tree a.g a.counter 0 s a.k a.n c.requires.0)
    (at_once t a.counter c.store_object-q.ensures refl refl (ap (λ w. Ok w) c.up_to.ensures) (omega (arith, fit.0, z.0)) (omega (arith, fit.1, y)))

pub store_sized-requires : goal.store_sized-requires
store_sized-requires c =
    let a = c.args in
    let w = context_within a.context.now _ c.requires.0 in
    let placed = fits a.g c.requires.1 a.k a.n c.if-k-n.false (sym c.store_fits.ensures ∙ c.if-not-store_fits.false) in
    (omega (arith, w.1, c.if-k-n.false), placed, c.requires.1)

pub returns : goal.returns
returns c =
    let a = c.args in
    let s = a.context.now in
    let e = sym c.store_fits.ensures ∙ c.if-not-store_fits.false in
    answers_as a.counter (stored a.g a.counter _ s a.k a.n c.requires.0 c.if-k-n.false e) (tree a.g a.counter 0 s a.k a.n c.requires.0)
    c.store_sized.ensures
