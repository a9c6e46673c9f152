-- A word into the Snd of the variable past the last: put and compute perform a put of the abstract heap.
use mathlib.Core.Bool.{Bool, true, false}
use mathlib.Core.List.{[], ◌∷◌, ◌++◌}
use mathlib.Core.Path.{◌≡◌, sym, ◌∙◌}
use Prim.Native.Nat.{ℕ, suc, ◌+◌, ◌*◌, ◌≤◌, ◌<◌}
use native.Mathlib.Nat.{zero-add}
use native.Mathlib.Decide.{dec_lt}
use native.Mathlib.Omega.{arith}
use borrow.Author.Tests.{lt-ltb}
use Rattle.records.specs.declared.order.Calculation.{Calculation}
use Rattle.records.specs.declared.order.Calculation.TheVariants.{Add, Sub, Mul, Div, Rem}
use Rattle.word.specs.Results.{result, result_defined}
use Rattle.layout.specs.declared.config.Shape.{Shape}
use Rattle.layout.specs.Config.{positions}
use Rattle.layout.specs.Positions.{location, operand_ok}
use Rattle.layout.proofs.Placing.{register, spilled}
use Rattle.machine_step.specs.Step.{Config}
use Rattle.trees_proof.specs.Evaluation.{faulted, evaluate}
use Rattle.code.specs.Code.{load_immediate, arithmetic}
use Rattle.heap.specs.Blocks.{cell}
use Rattle.heap.specs.Orders.{HeapOrder, put, Performs, puts}
use Rattle.layout_proof.specs.Held.{held, Placed}
use Rattle.layout_proof.proofs.HeldLemmas.{keeps_register, placed_keeps, location_low, location_high, location_grows, location_fits, location_free}
use Rattle.layout_proof.proofs.Runs.{Does, so}
use Rattle.code_proof.specs.Claims.{Sets, DivisionOperands, OperandsFor}
use Rattle.code_proof.proofs.Puts.{Given, given, puts_sets}
use Rattle.code_proof.proofs.Records.{immediate_does}
use Rattle.code_proof.proofs.Operated.{arithmetic_does, arithmetic_stops}
use Rattle.memory_proof.proofs.Shown.{L, heap_of}
use Rattle.memory_proof.proofs.Variables.{variable, variables, variables_snoc, variables_kept, variables_kinds}
use Rattle.memory.specs.Objects.{object_sizes}

module _ (G : Shape) where
  -- what an order that changes something leaves: the abstract order performed, STACK and the heap's size as they were, no call
  pub record Performed (N : ℕ) (c : Config) (o : HeapOrder) (ext ext' : ℕ → Bool) (k k' : ℕ) (d : Config) : Type 0 where
    pub performs : Performs (object_sizes G) (L G) (heap_of G c) o (variables ext c 0 k) (heap_of G d) (variables ext' d 0 k')
    pub placed : Placed G N d
    pub quiet : d.calls ≡ c.calls

  -- the same heap, where its words and the two heads are the same
  pub heap_same : (c d : Config) → d.state.mem ≡ c.state.mem → d.state.reg 2 ≡ c.state.reg 2 → d.state.reg 3 ≡ c.state.reg 3 → heap_of G d ≡ heap_of G c
  heap_same c d m h f = rw (m, h, f)

  -- a position's operand is one that callers may give
  pub position_ok : (p : ℕ) → p < positions G → operand_ok G (location p) ≡ true
  position_ok p h = by (dec_lt (location p) 16)
    where
      by : Dec (location p < 16) → operand_ok G (location p) ≡ true
      by (yes l) = sym (register G (location p) (location_free p).0 l)
      by (no l) =
          let f = location_fits G p h in
          let g : 16 < location p = omega arith in
          sym (spilled G (location p) (omega arith) (omega (arith, f.1))) ∙ lt-ltb 16 (location p) g

  module _ {N : ℕ} (ext ext' : ℕ → Bool) (c : Config) (k : ℕ) (v : Placed G N c) (h : 2 * k + 2 < positions G) (agree : (x : ℕ) → x < k → ext' x ≡ ext x) (integer : ext' k ≡ true) where
    -- the word is the new variable's, and all else is as it was
    appended : (w : ℕ) (d : Config) → Sets (location (2 * k + 1)) w c d → Performed N c (put w) ext ext' k (suc k) d
    appended w d s =
        let K = s.1.kept in
        let f = location_free (2 * k + 1) in
        let front : variables ext' d 0 k ≡ variables ext c 0 k
        = variables_kinds ext ext' d 0 k (λ x a b. agree x (omega arith))
        ∙ variables_kept ext c d 0 k (λ p a b. let y = location_grows p (2 * k + 1) (omega arith) in (omega (arith, y.1), omega (arith, y.0))) K in
        let last : variable ext' d k ≡ cell 0 w = rw (integer, s.0) in
        let vs : variables ext' d 0 (suc k) ≡ variables ext c 0 k ++ (cell 0 w ∷ []) = variables_snoc ext' d 0 k ∙ rw (front, zero-add, last) in
        let same : heap_of G d ≡ heap_of G c = heap_same c d s.1.heap (keeps_register K 2 (omega arith) (omega (arith, f.0), omega arith)) (keeps_register K 3 (omega arith) (omega (arith, f.0), omega arith)) in
        record {
          performs = rw (same, vs) (puts w (variables ext c 0 k));
          placed = placed_keeps (omega (arith, f.0), omega arith) K v;
          quiet = K.calls_kept;
        }

    pub put_does : (words : ℕ → ℕ) (w : ℕ) → Does words (load_immediate G (location (2 * k + 1)) w) c (Performed N c (put w) ext ext' k (suc k))
    put_does words w = so (immediate_does words c v (location (2 * k + 1)) w (location_fits G (2 * k + 1) (omega arith)).1) (λ d s. appended w d (puts_sets s))

    module _ (words : ℕ → ℕ) (a b : ℕ) (ak : a < k) (bk : b < k) where
      abbrev T : ℕ
      T = location (2 * k + 1)

      abbrev A : ℕ
      A = location (2 * a + 1)

      abbrev B : ℕ
      B = location (2 * b + 1)

      -- the new variable's Snd is apart from the sources' and from registers 4 and 5, and no Snd is register 4
      apart : DivisionOperands T A B
      apart =
          let x = location_grows (2 * a + 1) (2 * k + 1) (omega arith) in
          let y = location_grows (2 * b + 1) (2 * k + 1) (omega arith) in
          let z = location_grows 1 (2 * k + 1) (omega arith) in
          let o = location_low 1 (omega arith) in
          let q : 5 ≤ B = past_first (2 * b + 1) (omega arith) in
          record { not_dividend = omega (arith, x.1); not_divisor = omega (arith, y.1); not_quotient = omega (arith, z.1, o); not_remainder = omega (arith, z.1, o); divisor = omega arith }
        where
          past_first : (p : ℕ) → 1 ≤ p → 5 ≤ location p
          past_first p h = by (dec_lt p 12)
            where
              by : Dec (p < 12) → 5 ≤ location p
              by (yes l) = omega (arith, location_low p l)
              by (no l) = omega (arith, location_high p (omega arith))

      apart_for : (o : Calculation) → OperandsFor o T A B
      apart_for Add = tt
      apart_for Sub = tt
      apart_for Mul = tt
      apart_for Div = apart
      apart_for Rem = apart

      ok : (p : ℕ) → p < positions G → Given G (location p)
      ok p l = given G (location p) (position_ok p l)

      pub compute_does : (o : Calculation) → result_defined o (held c A) (held c B) ≡ true
          → Does words (arithmetic G o T A B) c (Performed N c (put (result o (held c A) (held c B))) ext ext' k (suc k))
      compute_does o e =
          so (arithmetic_does words c v T A B (ok (2 * k + 1) (omega arith)) (ok (2 * a + 1) (omega arith)) (ok (2 * b + 1) (omega arith)) o (apart_for o) e)
          (appended (result o (held c A) (held c B)))

      pub compute_stops : (o : Calculation) → result_defined o (held c A) (held c B) ≡ false → (d : Config) × (evaluate words (arithmetic G o T A B) c ≡ faulted d)
      compute_stops o e =
          let p = arithmetic_stops words c v T A B (ok (2 * k + 1) (omega arith)) (ok (2 * a + 1) (omega arith)) (ok (2 * b + 1) (omega arith)) o (apart_for o) e in
          (p.at, p.run)
