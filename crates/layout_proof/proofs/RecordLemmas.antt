-- What a record does, by its form: a move, a sum or a compare, of registers, spills and words of a block.
use Rattle.std.specs.Prelude.{Some}
use mathlib.Core.Path.{◌≡◌, refl, ap}
use Prim.Native.Nat.{ℕ, ◌*◌, ◌≤◌, ◌<◌}
use Rattle.records.specs.declared.code.Code.TheVariants.{ADDI, ADDIM, MOV, MOVS, MOVL, MOVI, MOVIM, CMPI, CMPIM}
use Rattle.word.specs.Words.{sum}
use Rattle.trees.specs.Tree.{leaf}
use Rattle.layout.specs.declared.config.Shape.{Shape}
use Rattle.layout.specs.Config.{operands, block_words, stack_offset}
use Rattle.machine_step.specs.View.{View}
use Rattle.machine_step.specs.Memory.{Operand, register, memory, value_of, assigned}
use Rattle.machine_step.specs.Step.{Config, moved, changed, dropped, next, move, calculate, compare, step}
use Rattle.trees_proof.specs.Evaluation.{evaluate, evaluated, done}
use Rattle.heap.specs.Words.{word_at}
use Rattle.layout_proof.specs.Held.{held, Placed}
use Rattle.layout_proof.proofs.Operands.{with_register, with_spill, with_heap, with_pair, block_address}
use Rattle.layout_proof.proofs.PlaceLemmas.{block_read, block_written, spill_read, spill_written}

-- the three forms, whatever their operands are
module _ (c : Config) (dest src : Operand) {y : ℕ} where
  pub moves : {s : View} → value_of c.state src ≡ Some y → assigned c.state dest y ≡ Some s → move dest src c ≡ next (moved c s)
  moves e w = rw (e, w)

  pub computes : (f : ℕ → ℕ → ℕ) {x : ℕ} {s : View} → value_of c.state src ≡ Some y → value_of c.state dest ≡ Some x → assigned c.state dest (f x y) ≡ Some s → calculate f dest src c ≡ next (changed c s)
  computes f e d w = rw (e, d, w)

  pub compares : {x : ℕ} → value_of c.state src ≡ Some y → value_of c.state dest ≡ Some x → compare dest src c ≡ next (with_pair c x y)
  compares e d = rw (e, d)

module _ (words : ℕ → ℕ) where
  pub register_MOV : (c : Config) (a b : ℕ) → evaluate words (leaf (MOV a b) refl) c ≡ done (with_register c a (c.state.reg b))
  unfolding step
  register_MOV c a b = refl

  pub register_MOVI : (c : Config) (a x : ℕ) → evaluate words (leaf (MOVI a x) refl) c ≡ done (with_register c a x)
  unfolding step
  register_MOVI c a x = refl

  pub register_ADDI : (c : Config) (a x : ℕ) → evaluate words (leaf (ADDI a x) refl) c ≡ done (dropped (with_register c a (sum (c.state.reg a) x)))
  unfolding step
  register_ADDI c a x = refl

  pub register_compared : (c : Config) (a x : ℕ) → step words (CMPI a x) c ≡ next (with_pair c (c.state.reg a) x)
  unfolding step
  register_compared c a x = refl

  module _ {G : Shape} {N : ℕ} (c : Config) (v : Placed G N c) where
    -- word w of block j, whose address register r holds
    module _ (r j o w : ℕ) (p : c.state.reg r ≡ block_address G j) (h : j < N) (q : o ≡ 8 * w) (f : w < block_words G) where
      pub block_MOVL : (a : ℕ) → evaluate words (leaf (MOVL a r o) refl) c ≡ done (with_register c a (c.state.mem (word_at G.fields j w)))
      unfolding step
      block_MOVL a = ap evaluated (moves c (register a) (memory r o) (block_read c.state v r j o w p h q f) refl)

      pub block_MOVS : (a : ℕ) → evaluate words (leaf (MOVS a r o) refl) c ≡ done (with_heap c (word_at G.fields j w) (c.state.reg a))
      unfolding step
      block_MOVS a = ap evaluated (moves c (memory r o) (register a) refl (block_written c.state v r j o w p h q f (c.state.reg a)))

      pub block_MOVIM : (x : ℕ) → evaluate words (leaf (MOVIM r o x) refl) c ≡ done (with_heap c (word_at G.fields j w) x)
      unfolding step
      block_MOVIM x = rw (block_written c.state v r j o w p h q f x)

      pub block_ADDIM : (x : ℕ) → evaluate words (leaf (ADDIM r o x) refl) c ≡ done (dropped (with_heap c (word_at G.fields j w) (sum (c.state.mem (word_at G.fields j w)) x)))
      unfolding step
      block_ADDIM x = rw (block_read c.state v r j o w p h q f, block_written c.state v r j o w p h q f (sum (c.state.mem (word_at G.fields j w)) x))

      pub block_compared : (x : ℕ) → step words (CMPIM r o x) c ≡ next (with_pair c (c.state.mem (word_at G.fields j w)) x)
      unfolding step
      block_compared x = rw (block_read c.state v r j o w p h q f)

    module _ (l : ℕ) (a : 16 ≤ l) (b : l < operands G) where
      pub spill_MOVL : (x : ℕ) → evaluate words (leaf (MOVL x 0 (stack_offset G l)) refl) c ≡ done (with_register c x (held c l))
      unfolding step
      spill_MOVL x = rw (spill_read c.state v l a b)

      pub spill_MOVS : (x : ℕ) → evaluate words (leaf (MOVS x 0 (stack_offset G l)) refl) c ≡ done (with_spill c l (c.state.reg x))
      unfolding step
      spill_MOVS x = rw (spill_written c.state v l a b (c.state.reg x))

      pub spill_MOVIM : (x : ℕ) → evaluate words (leaf (MOVIM 0 (stack_offset G l) x) refl) c ≡ done (with_spill c l x)
      unfolding step
      spill_MOVIM x = rw (spill_written c.state v l a b x)

      pub spill_compared : (x : ℕ) → step words (CMPIM 0 (stack_offset G l) x) c ≡ next (with_pair c (held c l) x)
      unfolding step
      spill_compared x = rw (spill_read c.state v l a b)
