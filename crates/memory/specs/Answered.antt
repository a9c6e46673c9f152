-- What the operations of memory.rs answer. From the scope, 'Causes and numbers', in rising order.
use Rattle.std.specs.Prelude.{ℕ, ◌*◌, ◌-◌, cond, List, [], ltb, eqb, Err}
use Rattle.records.specs.declared.code.Code.{Code}
use Rattle.records.specs.Contexts.{checked_context, on_context, bindings_in}
use Rattle.records.specs.Names.{most_count}
use Rattle.emit.specs.declared.answer.Refusal.TheVariants.{Context, Operand, Missing, Count, Position, Edition}
use Rattle.emit.specs.Answers.{unframed, granted, Answer}
use Rattle.layout.specs.declared.config.Shape.{Shape}
use Rattle.layout.specs.Config.{positions, shape_of, in_frame, in_shape}
use Rattle.layout.specs.Positions.{operand_ok}
use Rattle.trees.specs.Tree.{Tree, labels, size, flat}
use Rattle.memory.specs.Blocks.{erase_block, share_block}
use Rattle.memory.specs.Objects.{ext_in, store_object}

-- a tree's records, where nothing but labels or room can refuse
abbrev pub tree_answer : ℕ → ℕ → Tree → Answer
tree_answer counter room t = granted counter room (24 * size t) (labels t)

unfoldable pub erase_answer : Shape → ℕ → ℕ → ℕ → Answer
erase_answer g counter room w = cond (operand_ok g w) (tree_answer counter room (erase_block g w)) (Err Operand)

unfoldable pub share_answer : Shape → ℕ → ℕ → ℕ → ℕ → Answer
share_answer g counter room w n =
    cond (operand_ok g w) (cond (ltb most_count n) (Err Count) (tree_answer counter room (share_block g w n))) (Err Operand)

-- the answers and the records in a frame of so many spills
abbrev pub erase_in : ℕ → ℕ → ℕ → ℕ → Answer
erase_in frame counter room w = in_frame frame (λ g. erase_answer g counter room w) (Err Operand)

abbrev pub erase_records_in : ℕ → ℕ → ℕ → List Code
erase_records_in frame counter w = in_frame frame (λ g. flat (erase_block g w) counter) []

abbrev pub share_in : ℕ → ℕ → ℕ → ℕ → ℕ → Answer
share_in frame counter room w n = in_frame frame (λ g. share_answer g counter room w n) (Err Operand)

abbrev pub share_records_in : ℕ → ℕ → ℕ → ℕ → List Code
share_records_in frame counter w n = in_frame frame (λ g. flat (share_block g w n) counter) []

-- the last n variables of a context into an object
abbrev pub store_tree : Shape → List ℕ → ℕ → Tree
store_tree g context n = store_object g (ext_in context 0) (bindings_in (checked_context context) - n) n

-- the highest position that a store of n of k variables asks for: the last one's Snd, or the Fst past them where none is stored
abbrev pub store_highest : ℕ → ℕ → ℕ
store_highest k n = cond (eqb n 0) (2 * k) (2 * k - 1)

unfoldable pub store_answer : Shape → ℕ → ℕ → List ℕ → ℕ → Answer
store_answer g counter room context n =
    on_context (checked_context context)
    (λ k. cond (ltb k n) (Err Missing)
    (cond (ltb (store_highest k n) (positions g)) (tree_answer counter room (store_tree g context n)) (Err Position))) (λ flaw. Err (Context flaw))

-- the answer and the records in an edition and a frame of so many spills
abbrev pub store_in : ℕ → ℕ → ℕ → ℕ → List ℕ → ℕ → Answer
store_in edition frame counter room context n =
    in_shape (shape_of edition frame) (λ g. store_answer g counter room context n) (unframed (checked_context context)) (Err Edition)

abbrev pub store_records_in : ℕ → ℕ → ℕ → List ℕ → ℕ → List Code
store_records_in edition frame counter context n = in_shape (shape_of edition frame) (λ g. flat (store_tree g context n) counter) [] []
