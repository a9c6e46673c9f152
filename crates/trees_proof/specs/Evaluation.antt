-- What a tree does, with no label in it: records one after the other, a part left out or chosen by the compare before it.
-- A mark where parts meet drops the compare, as every label does.
use Rattle.std.specs.Prelude.{ℕ, cond, eqb, None, Some, Option}
use Rattle.trees.specs.Tree.{Tree, nop, leaf, seq, skip_if_zero, if_zero}
use Rattle.machine_step.specs.Step.{Config, dropped, Outcome, next, jump, end, fault, step}

-- at the end of the tree, or a fault with the configuration before the record that faults
pub data Evaluated : Type 0 where
  done : Config → Evaluated
  faulted : Config → Evaluated

abbrev pub and_then : Evaluated → (Config → Evaluated) → Evaluated
and_then (done c) k = k c
and_then (faulted c) k = faulted c

-- a tree's records go on to the next one or fault
abbrev pub evaluated : Outcome → Evaluated
evaluated (next c) = done c
evaluated (jump label c) = faulted c
evaluated (end c) = faulted c
evaluated (fault c) = faulted c

-- as the last compare found its words equal or not
abbrev pub on_equal : Config → Option (ℕ × ℕ) → Evaluated → Evaluated → Evaluated
on_equal c (Some (x, y)) equal other = cond (eqb x y) equal other
on_equal c None equal other = faulted c

-- where print calls leave the nine words
abbrev pub evaluate : (ℕ → ℕ) → Tree → Config → Evaluated
evaluate words nop c = done c
evaluate words (leaf x p) c = evaluated (step words x c)
evaluate words (seq t u) c = and_then (evaluate words t c) (λ d. evaluate words u d)
evaluate words (skip_if_zero x p t) c =
    and_then (evaluated (step words x c))
    (λ d. on_equal d d.pair (done (dropped d)) (and_then (evaluate words t (dropped d)) (λ e. done (dropped e))))
evaluate words (if_zero x p t e) c =
    and_then (evaluated (step words x c))
    (λ d. on_equal d d.pair
    (and_then (evaluate words t (dropped d)) (λ f. done (dropped f)))
    (and_then (evaluate words e (dropped d)) (λ f. done (dropped f))))
