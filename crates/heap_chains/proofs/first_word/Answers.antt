use borrow.Author.Rules.{rules}
use Prim.Native.Nat.{◌*◌}
use mathlib.Core.Path.{◌≡◌, ◌∙◌}
use lib.ListN.{get_or}
use Rattle.std.proofs.lemmas.Option.{unwrap_or-slice_get}
use native.Mathlib.Omega.{arith}
use Rattle.machine_step.specs.View.{words_of}
use Rattle.heap_chains.proofs.FirstWords.{number_bytes, at_block, no_block, block_starts}
use Rattle.heap_chains.proofs.first_word.Goals as goal

pub overflow_mul-at : goal.overflow_mul-at
overflow_mul-at c = omega (arith, at_block _ _ c.block_words-block.ensures.0 c.number_of.ensures, number_bytes c.args.g.fields c.args.b, c.ranges.b)

pub overflow_mul-at-2 : goal.overflow_mul-at-2
overflow_mul-at-2 c = omega (arith, at_block _ _ c.block_words-block.ensures.0 c.number_of.ensures, number_bytes c.args.g.fields c.args.b, c.ranges.b)

pub overflow_add-at : goal.overflow_add-at
overflow_add-at c = omega (arith, at_block _ _ c.block_words-block.ensures.0 c.number_of.ensures, number_bytes c.args.g.fields c.args.b, c.ranges.b)

pub returns-then-at-b : goal.returns-then-at-b
returns-then-at-b c = no_block c.args.g.fields (words_of c.args.heap.now) c.args.b (at_block _ _ c.block_words-block.ensures.0 c.number_of.ensures) c.if-at-b.true

pub returns : goal.returns
returns c =
    let at = c.block_words-block.result * c.number_of.result in
    let w : c.unwrap_or.result ≡ get_or c.args.heap.now at 0 = search (rules, unwrap_or-slice_get) in
    w ∙ block_starts c.args.g.fields (words_of c.args.heap.now) c.args.b (at_block _ _ c.block_words-block.ensures.0 c.number_of.ensures) c.if-at-b.false
