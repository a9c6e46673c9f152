-- Words as the searches find them.
use Rattle.std.specs.Prelude.{None, Some, Option}
use Prim.Native.Nat.{ℕ, ◌+◌, ◌-◌, ◌≤◌, ◌<◌}
use mathlib.Core.Path.{◌≡◌, refl, sym, ap, ◌∙◌, subst}
use mathlib.Core.Bool.{Bool, true, false, not}
use mathlib.Core.List.{List, [], ◌∷◌}
use native.Mathlib.Omega.{arith}
use lib.ListN.{length, get_or, drop}
use lib.Seq.{drop-cons, drop-drop, drop-nil}
use Rattle.plan_line.specs.declared.words.Sought.TheVariants.{Blank, Letter}
use Rattle.plan_line.specs.Words.{sought_in, before, found, parts, filled, words_in}
use Rattle.plan_line.specs.Finding.{WordStarts, FirstOf, word, none}
use Rattle.plan_line.proofs.Searching.{drop_past, found_within, part_found, drop_found, found_stopped, parts_first, rest, rest_filled, skipped}

-- what a search for a word gives, by its answer
at_word : {line : List ℕ} {ws : List (List ℕ)} {i j : ℕ} → FirstOf line ws (Some (i, j)) → WordStarts line ws i j
at_word (word s) = s

at_none : {line : List ℕ} {ws : List (List ℕ)} → FirstOf line ws None → ws ≡ []
at_none (none e) = e

module _ {line : List ℕ} {ws : List (List ℕ)} {f : Option (ℕ × ℕ)} (h : FirstOf line ws f) where
  pub starts : {i j : ℕ} → f ≡ Some (i, j) → WordStarts line ws i j
  starts e = at_word (subst (λ (g : Option (ℕ × ℕ)). FirstOf line ws g) e h)

  pub no_word : f ≡ None → ws ≡ []
  no_word e = at_none (subst (λ (g : Option (ℕ × ℕ)). FirstOf line ws g) e h)

not_marked : (x : Bool) → not x ≡ true → x ≡ false
not_marked true e = sym e
not_marked false e = refl

fill_first : (p : List ℕ) (ps : List (List ℕ)) → 0 < length p → filled (p ∷ ps) ≡ p ∷ filled ps
fill_first [] ps h = absurd (omega arith)
fill_first (b ∷ p) ps h = refl

some_before : (P : ℕ → Bool) (s : List ℕ) (i : ℕ) → i < length s → P (get_or s i 0) ≡ false → 0 < length (before P (drop i s))
unfolding before
some_before P s i h e = rw (drop-cons s i 0 h, e) (omega arith)

module _ (line : List ℕ) (at : ℕ) (inside : at ≤ length line) where
  -- blanks in front are passed over
  same_words : (start : ℕ) → start ≡ found (sought_in Letter) line at → words_in (drop start line) ≡ words_in (drop at line)
  unfolding words_in
  same_words start e = rw (e, drop_found (sought_in Letter) line at) (skipped (sought_in Blank) (drop at line))

  pub none_found : {start : ℕ} → start ≡ found (sought_in Letter) line at → length line ≤ start → words_in (drop at line) ≡ []
  unfolding words_in parts
  none_found {start} e h = sym (same_words start e) ∙ rw (drop_past line start h)

  module _ {start : ℕ} (e : start ≡ found (sought_in Letter) line at) (h : start < length line) where
    letter : sought_in Blank (get_or line start 0) ≡ false
    letter = not_marked (sought_in Blank (get_or line start 0)) (rw e (found_stopped (sought_in Letter) line at (rw e at h) inside))

    first_word : words_in (drop start line)
        ≡ before (sought_in Blank) (drop start line) ∷ words_in (drop (length (before (sought_in Blank) (drop start line))) (drop start line))
    unfolding words_in
    first_word =
        ap filled (parts_first (sought_in Blank) (drop start line))
        ∙ fill_first (before (sought_in Blank) (drop start line)) (rest (sought_in Blank) (drop (length (before (sought_in Blank) (drop start line))) (drop start line))) (some_before (sought_in Blank) line start h letter)
        ∙ ap (λ (ws : List (List ℕ)). before (sought_in Blank) (drop start line) ∷ ws) (rest_filled (sought_in Blank) (drop start line))

    pub word_found : {end : ℕ} → end ≡ found (sought_in Blank) line start → WordStarts line (words_in (drop at line)) start end
    unfolding found
    word_found {end} f =
        subst (λ (j : ℕ). WordStarts line (words_in (drop at line)) start j) (sym f)
        (record {
          words = sym (same_words start e) ∙ first_word ∙ rw (part_found (sought_in Blank) line start, drop_found (sought_in Blank) line start);
          some = omega (arith, some_before (sought_in Blank) line start h letter);
          within = found_within (sought_in Blank) line start (omega arith);
        })

-- words counted from the front
module _ {A : Type 0} (ws : List A) (i : ℕ) where
  pub none_after : {k : ℕ} → drop i ws ≡ [] → i ≤ k → drop k ws ≡ []
  none_after {k} e h =
      let g : i + (k - i) ≡ k = omega arith in
      subst (λ (n : ℕ). drop n ws ≡ []) g (sym (drop-drop (k - i) i ws) ∙ ap (drop (k - i)) e ∙ drop-nil (k - i))

  pub one_less : {w : A} {rest : List A} → drop i ws ≡ w ∷ rest → drop (i + 1) ws ≡ rest
  one_less e = sym (drop-drop 1 i ws) ∙ ap (drop 1) e
