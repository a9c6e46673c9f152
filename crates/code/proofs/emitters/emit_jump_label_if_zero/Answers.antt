use mathlib.Core.List.{[], ◌∷◌}
use Rattle.trees.specs.Tree.{flat}
use Rattle.emit.proofs.Laws.{◌⨾◌, fields_append}
use Rattle.code.specs.Code.{compare_immediate, jump_if}
use Rattle.code.proofs.Sizes.{plain_compare_immediate}
use Rattle.code.proofs.Listed.{plain_list}
use native.Mathlib.Omega.{arith}
use Rattle.code.proofs.emitters.emit_jump_label_if_zero.Goals as goal

pub emit_jump_if-requires : goal.emit_jump_if-requires
emit_jump_if-requires c = let s = plain_compare_immediate c.args.g c.args.w 0 in omega arith

pub returns : goal.returns
returns c = rw (fields_append (flat (compare_immediate c.args.g c.args.w 0) 0) (jump_if c.args.condition c.args.label ∷ [])) (plain_list (plain_compare_immediate c.args.g c.args.w 0) c.emit_compare_immediate-q.ensures ⨾ c.emit_jump_if.ensures)
