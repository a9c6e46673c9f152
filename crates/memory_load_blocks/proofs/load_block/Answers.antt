use Prim.Native.Nat.{ℕ, ◌≤◌}
use mathlib.Core.Path.{◌≡◌, refl, ◌∙◌}
use mathlib.Core.Bool.{Bool, true, false, ◌||◌}
use native.Mathlib.Omega.{arith}
use lib.Dec.{ltb}
use borrow.Author.Tests.{lt-ltb, le-ltb}
use Rattle.records.specs.declared.code.Code.TheVariants.{MOVL}
use Rattle.records.proofs.Conditions.{both_ways}
use Rattle.trees.specs.Tree.{nop, leaf}
use Rattle.layout.specs.declared.config.Shape.{Shape}
use Rattle.layout.specs.Config.{STACK, RETURN1, stack_offset}
use Rattle.memory.specs.Objects.{ext_in, capacity}
use Rattle.memory.proofs.Sizes.{Within, aside_size, body_size}
use Rattle.memory_load_blocks.proofs.Opened.{opened}
use Rattle.memory_load_blocks.proofs.load_block.Goals.{then-w-lt16, else-w-lt16, then-w-lt16-2, else-w-lt16-2}
use Rattle.memory_load_blocks.proofs.load_block.Goals as goal

-- no block holds more variables than it has fields
most : (g : Shape) (other : Bool) → capacity g other ≤ g.fields
most g true = omega arith
most g false = omega arith

pub borrow_register-s-requires : goal.borrow_register-s-requires
borrow_register-s-requires c =
    let a = c.args in
    let w = c.requires in
    (omega (arith, c.set_aside-q.ensures.place, aside_size a.g c.if-w-lt16.set_aside), omega (arith, w.2, c.location_of-w.ensures.1), w.6)

pub load_body-t-requires : goal.load_body-t-requires
load_body-t-requires c =
    let a = c.args in
    let w = c.requires in
    let x : ℕ = c.location_of-w.result in
    let set = c.set_aside-q.ensures in
    let borrowed = c.borrow_register-s.ensures in
    let z = aside_size a.g c.if-w-lt16.set_aside in
    let y = both_ways (Within 0 1) (ltb x 16) {x = nop} {y = leaf (MOVL RETURN1 STACK (stack_offset a.g x)) refl} (omega arith) (omega arith) in
    (w.0, w.1, w.2, w.3, omega (arith, w.4, set.place, borrowed.place, z, y), omega (arith, w.5, set.drawn, borrowed.drawn, z, y), w.6)

pub restore_aside-requires : goal.restore_aside-requires
restore_aside-requires c =
    let a = c.args in
    let w = c.requires in
    let x : ℕ = c.location_of-w.result in
    let set = c.set_aside-q.ensures in
    let borrowed = c.borrow_register-s.ensures in
    let body = c.load_body-t.ensures in
    let z = aside_size a.g c.if-w-lt16.set_aside in
    let y = both_ways (Within 0 1) (ltb x 16) {x = nop} {y = leaf (MOVL RETURN1 STACK (stack_offset a.g x)) refl} (omega arith) (omega arith) in
    let s = body_size a.g (ext_in a.kinds.now a.first) a.shared a.other a.v a.k c.block_register.result in
    (omega (arith, w.3, w.4, w.6.few, most a.g a.other, set.place, borrowed.place, body.place, z, y, s), w.6)

pub returns : goal.returns
returns c =
    let a = c.args in
    let x : ℕ = c.location_of-w.result in
    let kept : c.if-w-lt16.set_aside ≡ (ltb x 16 || a.aside) = elim c.if-w-lt16.branch [
      | then-w-lt16 w ↦ w.set_aside-is ∙ rw (lt-ltb x 16 w.if-w-lt16.true)
      | else-w-lt16 w ↦ w.set_aside-is ∙ rw (le-ltb x 16 w.if-w-lt16.false)
    ] in
    let back : c.if-w-lt16-2.restore_aside ≡ (ltb x 16 || a.other) = elim c.if-w-lt16-2.branch [
      | then-w-lt16-2 w ↦ w.restore_aside-is ∙ rw (lt-ltb x 16 w.if-w-lt16-2.true)
      | else-w-lt16-2 w ↦ w.restore_aside-is ∙ rw (le-ltb x 16 w.if-w-lt16-2.false)
    ] in
    opened a.g (ext_in a.kinds.now a.first) a.shared a.other a.aside a.v a.k c.location_of-w.ensures.0 c.block_register.ensures
    kept back c.set_aside-q.ensures c.borrow_register-s.ensures c.load_body-t.ensures c.restore_aside.ensures
