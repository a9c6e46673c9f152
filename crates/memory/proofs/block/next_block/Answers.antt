use borrow.Author.Rules.{rules}
use native.Mathlib.Omega.{arith}
use Rattle.emit.proofs.Laws.{◌⨾◌, then₀, grown, listed}
use Rattle.emit.specs.Emitted.{fields_list}
use Rattle.trees.specs.Tree.{flat}
use Rattle.memory.specs.Blocks.{erase_fields, next_block}
use Rattle.memory.proofs.Flattened.{fields_size, next_flat}
use Rattle.memory.proofs.block.next_block.Goals as goal

pub next_end-requires : goal.next_end-requires
next_end-requires c = let d = c.erase_fields-s.ensures in let b = c.next_begin-q.ensures in let z = fields_size c.args.g.fields in (omega (arith, d.place, b.place), search rules, omega (arith, d.drawn, b.drawn))

pub returns : goal.returns
returns c = let a = c.args in grown (next_block a.g a.r) (then₀ (λ k. fields_list (flat (erase_fields a.g.fields) k)) c.next_begin-q.ensures (listed c.erase_fields-s.ensures) ⨾ c.next_end.ensures) (rw c.fst_offset-bytes.ensures (next_flat a.g a.r a.p.counter)) (omega (arith, fields_size a.g.fields))
