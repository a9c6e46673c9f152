-- Jumps go where they name: a compare leaves the pair of words, and the conditional jump after it goes by their relation.
use Rattle.std.specs.Prelude.{Some}
use Prim.Native.Nat.{ℕ, suc, ◌+◌}
use mathlib.Core.Path.{◌≡◌, refl, ap, subst, ◌∙◌}
use mathlib.Core.Logic.{◌≢◌}
use mathlib.Core.Bool.{Bool, true, false, cond}
use mathlib.Core.List.{List, [], ◌∷◌, ◌++◌, append_assoc}
use native.Mathlib.Omega.{arith}
use native.Mathlib.Numerals.{add-one}
use lib.Dec.{ltb}
use lib.ListN.{length, length-append, drop}
use borrow.Author.Tests.{ltb-true, ltb-false}
use Rattle.records.specs.declared.code.Code.{Code}
use Rattle.records.specs.declared.code.Code.TheVariants.{MOVL, CMP, CMPRM, CMPMR, CMPI, CMPIM, JMPL, JMPLN}
use Rattle.trees.specs.Tree.{Tree, leaf, seq, labels, size, flat}
use Rattle.trees.proofs.Flat.{length_flat}
use Rattle.layout.specs.declared.config.Shape.{Shape}
use Rattle.layout.specs.Config.{STACK, TEMP, stack_offset}
use Rattle.layout.specs.Positions.{operand_ok}
use Rattle.code.specs.declared.emitters.Condition.{Condition}
use Rattle.code.specs.declared.emitters.Condition.TheVariants.{Equal, NotEqual, Less, LessOrEqual, Greater, GreaterOrEqual}
use Rattle.code.specs.Code.{jump_if, compare_words, compare_immediate}
use Rattle.code.proofs.Sizes.{plain_compare, plain_compare_immediate}
use Rattle.operations.specs.declared.operation.Operation.TheVariants.{Label}
use Rattle.operations.specs.Operations.{operation_records}
use Rattle.word.specs.Words.{choose}
use Rattle.machine_step.specs.Memory.{register, memory, immediate}
use Rattle.machine_step.specs.Step.{Config, dropped, jump, next, step}
use Rattle.machine.specs.Run.{the_one, find}
use Rattle.trees_proof.specs.Evaluation.{evaluated, done}
use Rattle.trees_proof.specs.Claims.{RunsTo, RunsAs}
use Rattle.trees_proof.proofs.Steps.{drop_part, after, stepped, jumped, mark_does}
use Rattle.trees_proof.proofs.Trees.{does}
use Rattle.layout_proof.specs.Held.{held, Placed}
use Rattle.layout_proof.proofs.Operands.{with_pair}
use Rattle.layout_proof.proofs.HeldLemmas.{keeps_refl}
use Rattle.layout_proof.proofs.PlaceLemmas.{spill_read}
use Rattle.layout_proof.proofs.RecordLemmas.{compares}
use Rattle.layout_proof.proofs.Runs.{Does, one, then}
use Rattle.code_proof.specs.Claims.{Unchanged, relation, GoesIf, Jumps, JumpsWhereItNames, LabelDoesNothing}
use Rattle.code_proof.proofs.Puts.{Given, given, Puts, placed_after, puts_other}
use Rattle.code_proof.proofs.Records.{register_read, to_does}

-- nothing but TEMP and the compare changed
abbrev Same : Config → Config → Type 0
Same c d = Unchanged (λ l. l ≢ TEMP) c d

abbrev Compares : ℕ → ℕ → Config → Config → Type 0
Compares x y c d = (d.pair ≡ Some (x, y)) × Same c d

same : (c : Config) → Same c c
same c = record { kept = keeps_refl; heap = refl }

-- whatever the compare is after it
paired : {c : Config} (d : Config) (x y : ℕ) → Same c d → Same c (with_pair d x y)
paired d x y u = record { kept = u.kept; heap = u.heap }

unpaired : {c d : Config} → Same c d → Same c (dropped d)
unpaired u = record { kept = u.kept; heap = u.heap }

module _ (words : ℕ → ℕ) {G : Shape} {N : ℕ} (c : Config) (v : Placed G N c) where
  compare_does : (x y : ℕ) → Given G x → Given G y → Does words (compare_words G x y) c (Compares (held c x) (held c y) c)
  unfolding step
  compare_does x y f g = by (ltb x 16) refl (ltb y 16) refl
    where
      by : (a : Bool) → ltb x 16 ≡ a → (b : Bool) → ltb y 16 ≡ b
          → Does words
          (cond a (cond b (leaf (CMP x y) refl) (leaf (CMPRM x STACK (stack_offset G y)) refl))
          (cond b (leaf (CMPMR STACK (stack_offset G x) y) refl) (seq (leaf (MOVL TEMP STACK (stack_offset G x)) refl) (leaf (CMPRM TEMP STACK (stack_offset G y)) refl))))
          c (Compares (held c x) (held c y) c)
      by true e true h =
          one (ap evaluated (compares c (register x) (register y) (register_read c y (ltb-true y 16 h)) (register_read c x (ltb-true x 16 e)))) (refl, paired c _ _ (same c))
      by true e false h =
          one (ap evaluated (compares c (register x) (memory STACK (stack_offset G y)) (spill_read c.state v y (ltb-false y 16 h) g.below) (register_read c x (ltb-true x 16 e)))) (refl, paired c _ _ (same c))
      by false e true h =
          one (ap evaluated (compares c (memory STACK (stack_offset G x)) (register y) (register_read c y (ltb-true y 16 h)) (spill_read c.state v x (ltb-false x 16 e) f.below))) (refl, paired c _ _ (same c))
      by false e false h =
          let r : Does words (leaf (MOVL TEMP STACK (stack_offset G x)) refl) c (Puts TEMP (held c x) c) = rw e at (to_does words c v TEMP x (omega arith) f.below) in
          then r (λ d p.
          one (ap evaluated (compares d (register TEMP) (memory STACK (stack_offset G y)) (spill_read d.state (placed_after p (omega arith) v) y (ltb-false y 16 h) g.below) (register_read d TEMP (omega arith))))
          (rw (p.0, puts_other p y (omega (arith, g.above))), paired d (held d TEMP) (held d y) p.1))

  immediate_does : (x value : ℕ) → Given G x → Does words (compare_immediate G x value) c (Compares (held c x) value c)
  unfolding step
  immediate_does x value f = by (ltb x 16) refl
    where
      by : (a : Bool) → ltb x 16 ≡ a → Does words (cond a (leaf (CMPI x value) refl) (leaf (CMPIM STACK (stack_offset G x) value) refl)) c (Compares (held c x) value c)
      by true e = one (ap evaluated (compares c (register x) (immediate value) refl (register_read c x (ltb-true x 16 e)))) (refl, paired c _ _ (same c))
      by false e = one (ap evaluated (compares c (memory STACK (stack_offset G x)) (immediate value) refl (spill_read c.state v x (ltb-false x 16 e) f.below))) (refl, paired c _ _ (same c))

-- a conditional jump goes by the relation of the words compared last
jump_is : (words : ℕ → ℕ) (k : Condition) (label x y : ℕ) (d : Config) → d.pair ≡ Some (x, y)
    → step words (jump_if k label) d ≡ cond (relation k x y) (jump label (dropped d)) (next (dropped d))
unfolding step
jump_is words Equal label x y d e = rw e
jump_is words NotEqual label x y d e = rw e
jump_is words Less label x y d e = rw e
jump_is words LessOrEqual label x y d e = rw e
jump_is words Greater label x y d e = rw e
jump_is words GreaterOrEqual label x y d e = rw e

module _ (words : ℕ → ℕ) (p : List Code) (label i j : ℕ) (c : Config) (f : find label p ≡ Some j) where
  -- a tree that compares x and y, and a conditional jump after it
  branch_goes : (u : Tree) (k : Condition) (x y : ℕ) → labels u ≡ 0 → Does words u c (Compares x y c) → GoesIf (relation k x y) words p i j (flat u 0 ++ (jump_if k label ∷ [])) c
  branch_goes u k x y z r rest e =
      let e₁ : drop i p ≡ flat u 0 ++ (jump_if k label ∷ rest) = e ∙ append_assoc (flat u 0) (jump_if k label ∷ []) rest in
      let e₂ : drop (i + size u) p ≡ jump_if k label ∷ rest = drop_part p i (size u) (flat u 0) (jump_if k label ∷ rest) e₁ (length_flat u 0 0) in
      let g : RunsTo words p (size u) i (i + size u) c r.to =
      subst (RunsAs words p (size u) i (i + size u) c) r.run (does words p u 0 0 i (jump_if k label ∷ rest) c e₁ (λ l a b. absurd (omega arith))) in
      let n : length (flat u 0 ++ (jump_if k label ∷ [])) ≡ size u + 1 = omega (arith, length-append (flat u 0) (jump_if k label ∷ []), length_flat u 0 0) in
      record {
        at = dropped r.to;
        run = rw n (by e₂ g (relation k x y) (jump_is words k label x y r.to r.post.0));
        rest = unpaired r.post.1;
      }
    where
      by : drop (i + size u) p ≡ jump_if k label ∷ rest → RunsTo words p (size u) i (i + size u) c r.to
          → (b : Bool) → step words (jump_if k label) r.to ≡ cond b (jump label (dropped r.to)) (next (dropped r.to))
          → RunsTo words p (size u + 1) i (choose b j (i + (size u + 1))) c (dropped r.to)
      by e g true w = after words p (size u) 1 i (i + size u) j (done (dropped r.to)) g (jumped words p (i + size u) e r.to w f) (omega arith) (size u + 1) (omega arith)
      by e g false w =
          let m : i + (size u + 1) ≡ suc (i + size u) = omega arith in
          rw m (after words p (size u) 1 i (i + size u) (suc (i + size u)) (done (dropped r.to)) g (stepped words p (i + size u) e r.to w) (omega arith) (size u + 1) (omega arith))

  -- a jump in any case
  always_goes : (code : Code) → step words code c ≡ jump label (dropped c) → GoesIf true words p i j (code ∷ []) c
  always_goes code w rest e = record { at = dropped c; run = jumped words p i e c w f; rest = unpaired (same c) }

  module _ {G : Shape} {N : ℕ} (v : Placed G N c) where
    pub jumps : Jumps G words p label i j c
    unfolding operation_records step
    jumps =
        record {
          jump_label = always_goes (JMPL label) refl;
          jump_label_fixed = always_goes (JMPLN label) refl;
          jump_label_if = λ k x y a b. words_go k x y a b;
          jump_label_if_zero = λ k x a. value_goes k x 0 a;
          compare = λ k x y a b. words_go k x y a b;
          compares_immediate = λ k x value a. value_goes k x value a;
        }
      where
        words_go : (k : Condition) (x y : ℕ) → operand_ok G x ≡ true → operand_ok G y ≡ true
            → GoesIf (relation k (held c x) (held c y)) words p i j (flat (compare_words G x y) 0 ++ (jump_if k label ∷ [])) c
        words_go k x y a b = branch_goes (compare_words G x y) k (held c x) (held c y) (plain_compare G x y).none (compare_does words c v x y (given G x a) (given G y b))

        value_goes : (k : Condition) (x value : ℕ) → operand_ok G x ≡ true
            → GoesIf (relation k (held c x) value) words p i j (flat (compare_immediate G x value) 0 ++ (jump_if k label ∷ [])) c
        value_goes k x value a = branch_goes (compare_immediate G x value) k (held c x) value (plain_compare_immediate G x value).none (immediate_does words c v x value (given G x a))

pub jumps_where_it_names : JumpsWhereItNames
unfolding JumpsWhereItNames
jumps_where_it_names G words p label i j N c e v = jumps words p label i j c (ap the_one e) v

pub label_does_nothing : LabelDoesNothing
unfolding LabelDoesNothing operation_records
label_does_nothing G words p label i c rest e =
    let records : List Code = operation_records G (Label label) in
    let r : RunsTo words p (length records) i (i + length records) c (dropped c) = rw (add-one i) (mark_does words p i e c) in
    record { at = dropped c; run = r; rest = unpaired (same c) }
