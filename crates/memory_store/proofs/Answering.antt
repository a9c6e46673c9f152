-- From a checked context to what a store of its last n variables answers.
use Rattle.std.specs.Prelude.{Err, Ok}
use Prim.Native.Nat.{ℕ, ◌+◌, ◌*◌, ◌-◌, ◌≤◌, ◌<◌}
use mathlib.Core.Path.{◌≡◌, sym, ap, ◌∙◌}
use mathlib.Core.Bool.{Bool, true, false, cond}
use mathlib.Core.List.{List}
use native.Mathlib.Omega.{arith}
use native.Mathlib.Decide.{ℕ_discrete, dec_lt}
use lib.Dec.{ltb}
use borrow.Author.Tests.{lt-ltb, le-ltb, eq-eqb, ne_eqb, ltb-true}
use Rattle.records.specs.Contexts.{checked_context, bindings_in, on_context}
use Rattle.trees.specs.Tree.{Tree, flat}
use Rattle.emit.specs.declared.answer.Refusal.TheVariants.{Context, Missing, Position}
use Rattle.emit.specs.Answers.{output, Answers, Answer}
use Rattle.emit.proofs.Wrote.{answers}
use Rattle.layout.specs.declared.config.Shape.{Shape}
use Rattle.layout.specs.Config.{Supported, positions}
use Rattle.memory.specs.Objects.{ext_in, store_object}
use Rattle.memory.specs.Answered.{tree_answer, store_tree, store_highest, store_answer}

-- the last variable's Snd
pub last_fits : (k n : ℕ) → 1 ≤ n → ltb (2 * k) (n + 1) ≡ ltb (2 * k - 1) n
last_fits k n p = by (dec_lt (2 * k) (n + 1))
  where
    by : Dec (2 * k < n + 1) → ltb (2 * k) (n + 1) ≡ ltb (2 * k - 1) n
    by (yes h) = let g : 2 * k - 1 < n = omega arith in rw (lt-ltb (2 * k) (n + 1) h, lt-ltb (2 * k - 1) n g)
    by (no h) =
        let g : n + 1 ≤ 2 * k = omega arith in
        let f : n ≤ 2 * k - 1 = omega arith in
        rw (le-ltb (2 * k) (n + 1) g, le-ltb (2 * k - 1) n f)

pub answers_as : {o o' : List ℕ} {r e e' : Answer} {t t' : Tree} (c : ℕ) → e ≡ e' → t ≡ t' → Answers o o' r e (flat t c) → Answers o o' r e' (flat t' c)
answers_as {o} {o'} {r} {e} {e'} {t} {t'} c p q a =
    answers (a.answer ∙ p) (a.bytes ∙ ap (λ (x : Answer). output_of x t) p ∙ ap (λ (u : Tree). output_of e' u) q)
  where
    output_of : Answer → Tree → List ℕ
    output_of x u = output x o (flat u c)

second : (a b : Bool) (x y z : Answer) → a ≡ false → b ≡ true → y ≡ cond a x (cond b y z)
second a b x y z p q = rw (p, q)

module _ (g : Shape) (counter room : ℕ) (s : List ℕ) (k n : ℕ) (h : checked_context s ≡ Ok k) where
  pub missing : k < n → Err Missing ≡ store_answer g counter room s n
  unfolding store_answer
  missing l = rw (h, lt-ltb k n l)

  pub no_position : n ≤ k → ltb (store_highest k n) (positions g) ≡ false → Err Position ≡ store_answer g counter room s n
  unfolding store_answer
  no_position l e = rw (h, le-ltb k n l, e)

  pub tree : store_object g (ext_in s 0) (k - n) n ≡ store_tree g s n
  tree = ap (λ c. store_object g (ext_in s 0) (bindings_in c - n) n) (sym h)

  pub stored : n ≤ k → ltb (store_highest k n) (positions g) ≡ true → tree_answer counter room (store_object g (ext_in s 0) (k - n) n) ≡ store_answer g counter room s n
  unfolding store_answer
  stored l e =
      ap (tree_answer counter room) tree
      ∙ second (ltb k n) (ltb (store_highest k n) (positions g)) (Err Missing) (tree_answer counter room (store_tree g s n)) (Err Position) (le-ltb k n l) e
      ∙ ap (λ c. on_context c answered (λ flaw. Err (Context flaw))) (sym h)
    where
      answered : ℕ → Answer
      answered k = cond (ltb k n) (Err Missing) (cond (ltb (store_highest k n) (positions g)) (tree_answer counter room (store_tree g s n)) (Err Position))

-- variables come in pairs of positions
pub fits : (g : Shape) → Supported g → (k n : ℕ) → n ≤ k → ltb (store_highest k n) (positions g) ≡ true → 2 * (k - n + n) < positions g
fits g s k n l e = by (ℕ_discrete n 0)
  where
    by : Dec (n ≡ 0) → 2 * (k - n + n) < positions g
    by (yes z) = let h : 2 * k < positions g = ltb-true (2 * k) (positions g) (rw (eq-eqb n 0 z) at e) in omega arith
    by (no z) = let h : 2 * k - 1 < positions g = ltb-true (2 * k - 1) (positions g) (rw (ne_eqb n 0 z) at e) in omega (arith, s.even)
