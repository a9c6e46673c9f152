-- What a load answers. From the scope, 'Causes and numbers', in rising order, and 'Job 2': the existing context wholly before the variables to load, whose places
-- count on, as in an order; a load of none writes no records after any length.
use Rattle.std.specs.Prelude.{ℕ, ◌+◌, ◌*◌, ◌-◌, Bool, true, cond, List, [], ltb, eqb, Err}
use Rattle.records.specs.declared.code.Code.{Code}
use Rattle.records.specs.Contexts.{checked_context, counted_on, on_context, bindings_in}
use Rattle.emit.specs.declared.answer.Refusal.TheVariants.{Context, Position, Edition}
use Rattle.emit.specs.Answers.{unframed, Answer}
use Rattle.layout.specs.declared.config.Shape.{Shape}
use Rattle.layout.specs.Config.{positions, shape_of, in_shape}
use Rattle.trees.specs.Tree.{Tree, flat}
use Rattle.memory.specs.Objects.{ext_in, load_object}
use Rattle.memory.specs.Answered.{tree_answer}

-- the variables of one context, out of the object in the Fst past another context
abbrev pub load_tree : Shape → List ℕ → List ℕ → Tree
load_tree g loaded existing =
    load_object g (ext_in loaded (bindings_in (checked_context existing))) (bindings_in (checked_context existing)) (bindings_in (checked_context loaded))

-- whether n variables after v have positions, the last one's Snd too; none need none
abbrev pub load_fits : Shape → ℕ → ℕ → Bool
load_fits g v n = cond (eqb n 0) true (ltb (2 * (v + n) - 1) (positions g))

-- the answer for n variables after v
abbrev pub load_after : Shape → ℕ → ℕ → List ℕ → ℕ → ℕ → Answer
load_after g counter room loaded v n =
    cond (load_fits g v n) (tree_answer counter room (load_object g (ext_in loaded v) v n)) (Err Position)

unfoldable pub load_answer : Shape → ℕ → ℕ → List ℕ → List ℕ → Answer
load_answer g counter room loaded existing =
    on_context (checked_context existing)
    (λ v. on_context (counted_on v (checked_context loaded)) (λ n. load_after g counter room loaded v n) (λ flaw. Err (Context flaw))) (λ flaw. Err (Context flaw))

-- 3 where there is no such frame, after both contexts
abbrev pub unframed_load : List ℕ → List ℕ → Answer
unframed_load loaded existing = on_context (checked_context existing) (λ v. unframed (counted_on v (checked_context loaded))) (λ flaw. Err (Context flaw))

-- the answer and the records in an edition and a frame of so many spills
abbrev pub load_in : ℕ → ℕ → ℕ → ℕ → List ℕ → List ℕ → Answer
load_in edition frame counter room loaded existing =
    in_shape (shape_of edition frame) (λ g. load_answer g counter room loaded existing)
    (unframed_load loaded existing) (Err Edition)

abbrev pub load_records_in : ℕ → ℕ → ℕ → List ℕ → List ℕ → List Code
load_records_in edition frame counter loaded existing = in_shape (shape_of edition frame) (λ g. flat (load_tree g loaded existing) counter) [] []
