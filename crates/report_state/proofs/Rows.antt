-- The lines of variables, put one after the other.
use Rattle.layout.specs.declared.config.Unshaped.{Unshaped}
use Rattle.layout.specs.declared.config.Unshaped.TheVariants.{NoFrame, NoEdition}
use Rattle.std.specs.Prelude.{Ok, Err}
use Prim.Native.Nat.{ℕ, zero, suc, ◌+◌, ◌*◌, ◌-◌, ◌≤◌, ◌<◌}
use mathlib.Core.Path.{◌≡◌, refl, ap, subst}
use mathlib.Core.Bool.{Bool, true, false}
use mathlib.Core.List.{List, [], ◌++◌, append_assoc, append-nil}
use native.Mathlib.Nat.{le_antisymm}
use native.Mathlib.Numerals.{add-one}
use native.Mathlib.Omega.{arith}
use lib.ListN.{length, get_or}
use borrow.Author.Tests.{lt-ltb, le-ltb}
use Rattle.records.specs.declared.context.Flaw.{Flaw}
use Rattle.records.specs.Contexts.{checked_context, ext_at}
use Rattle.text.specs.Putting.{Puts}
use Rattle.text.proofs.Putting.{nothing, at_most, ◌⨟◌}
use Rattle.word.specs.Words.{choose}
use Rattle.layout.specs.declared.config.Shape.{Shape}
use Rattle.layout.specs.Config.{in_shape, positions, most_variables}
use Rattle.layout.specs.Positions.{location}
use Rattle.layout.specs.Frame.{held_in, variable_in, variables_in}
use Rattle.machine_step.specs.View.{words_of, from_end}
use Rattle.heap.specs.Blocks.{cell}
use Rattle.report_state.specs.Cells.{cell_words, cell_line, cell_lines, variable_line, first_lines, variable_lines}

-- the word of a spill, which the stack holds
pub spill_word : (R S : List ℕ) {l m i : ℕ} → l ≡ m → 16 ≤ l → l - 9 < length S → i ≡ length S - suc (l - 9) → get_or S i 0 ≡ held_in (words_of R) (from_end S) m
unfolding held_in
spill_word R S {l} e g h q = rw (← e, le-ltb l 16 g, lt-ltb (l - 9) (length S) h, q)

-- an integer's Fst is not looked at
same_cell : (g : Shape) (place p w : ℕ) (ext : Bool) → cell_line g place ext (cell p w) ≡ cell_line g place ext (cell (choose ext 0 p) w)
unfolding cell_line cell_words
same_cell g place p w true = refl
same_cell g place p w false = refl

-- one variable's line from its two words
pub line_of : (g : Shape) (context registers stack : List ℕ) (k : ℕ) {ext : Bool} {p w m i j : ℕ} {o o' : List ℕ}
    → p ≡ held_in (words_of registers) (from_end stack) (location (2 * k)) → w ≡ held_in (words_of registers) (from_end stack) (location (2 * k + 1)) → ext ≡ ext_at context k
    → Puts m o i o' j (cell_line g k ext (cell p w)) → Puts m o i o' j (variable_line g context registers stack k)
unfolding variable_line
line_of g context registers stack k {ext} {p} {w} {m} {i} {j} {o} {o'} e d x put =
    let h : cell_line g k ext (cell p w) ≡ variable_line g context registers stack k = rw (e, d, x) (same_cell g k _ _ (ext_at context k)) in
    subst (λ (bs : List ℕ). Puts m o i o' j bs) h put

-- the lines of k + 1 variables are those of k, and the last one's
module _ (g : Shape) (ext : ℕ → Bool) (registers stack : ℕ → ℕ) where
  lines_more : (v k : ℕ) → cell_lines g ext v (variables_in ext registers stack v (suc k))
      ≡ cell_lines g ext v (variables_in ext registers stack v k) ++ cell_line g (v + k) (ext (v + k)) (variable_in ext registers stack (v + k))
  unfolding cell_lines
  lines_more v zero = let e : v + 0 ≡ v = omega arith in rw e (append-nil _)
  lines_more v (suc k) =
      let e : v + suc k ≡ suc v + k = omega arith in
      rw (e, append_assoc) (ap (λ (z : List ℕ). cell_line g v (ext v) (variable_in ext registers stack v) ++ z) (lines_more (suc v) k))

module _ (g : Shape) (context registers stack : List ℕ) where
  pub no_lines : (o : List ℕ) (i : ℕ) → Puts (83 * 0) o i o i (first_lines g context registers stack 0)
  unfolding first_lines cell_lines
  no_lines o i = nothing o i

  module _ (k : ℕ) {i j : ℕ} {o o' : List ℕ} (so_far : Puts (83 * k) o i o' j (first_lines g context registers stack k)) where
    pub line_more : {o'' : List ℕ} {n : ℕ} → Puts 83 o' j o'' n (variable_line g context registers stack k) → Puts (83 * (k + 1)) o i o'' n (first_lines g context registers stack (k + 1))
    unfolding first_lines variable_line
    line_more p =
        let z : 0 + k ≡ k = omega arith in
        let e : first_lines g context registers stack (k + 1) ≡ first_lines g context registers stack k ++ variable_line g context registers stack k =
        rw (add-one k) (rw z at (lines_more g (ext_at context) (words_of registers) (from_end stack) 0 k))
        in
        rw e (at_most (so_far ⨟ p) (omega arith))

    pub all_lines : (n : ℕ) → k ≤ n → n ≤ k → Puts (83 * n) o i o' j (first_lines g context registers stack n)
    all_lines n l h = subst (λ (m : ℕ). Puts (83 * m) o i o' j (first_lines g context registers stack m)) (le_antisymm l h) so_far

-- what a context's check decides
module _ (g : Shape) (s registers stack o : List ℕ) (i : ℕ) where
  pub of_bad : {flaw : Flaw} → checked_context s ≡ Err flaw → Puts (83 * most_variables g) o i o i (variable_lines g s registers stack)
  unfolding variable_lines first_lines cell_lines
  of_bad e = rw (e, lt-ltb 0 (positions g) (omega arith)) (at_most (nothing o i) (omega arith))

  pub of_many : {n : ℕ} → checked_context s ≡ Ok n → positions g ≤ 2 * n → Puts (83 * most_variables g) o i o i (variable_lines g s registers stack)
  unfolding variable_lines
  of_many {n} e h = rw (e, le-ltb (2 * n) (positions g) h) (at_most (nothing o i) (omega arith))

  pub of_few : {n j : ℕ} {o' : List ℕ} → checked_context s ≡ Ok n → 2 * n < positions g → Puts (83 * n) o i o' j (first_lines g s registers stack n)
      → Puts (83 * most_variables g) o i o' j (variable_lines g s registers stack)
  unfolding variable_lines
  of_few {n} e h p = rw (e, lt-ltb (2 * n) (positions g) h) (at_most p (omega arith))

-- where there is no such edition or frame
pub no_rows : (none : Unshaped) (f : Shape → List ℕ) (o : List ℕ) (i n : ℕ) → Puts n o i o i (in_shape (Err none) f [] [])
no_rows NoFrame f o i n = at_most (nothing o i) (omega arith)
no_rows NoEdition f o i n = at_most (nothing o i) (omega arith)
