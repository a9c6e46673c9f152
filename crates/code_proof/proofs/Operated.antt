-- The five operations do what they name: one lemma over the operation, and one for where it has no result.
use Prim.Native.Nat.{ℕ}
use mathlib.Core.Path.{◌≡◌, sym}
use mathlib.Core.Bool.{true, false}
use Rattle.records.specs.declared.order.Calculation.{Calculation}
use Rattle.records.specs.declared.order.Calculation.TheVariants.{Add, Sub, Mul, Div, Rem}
use Rattle.records.proofs.Conditions.{never}
use Rattle.layout.specs.declared.config.Shape.{Shape}
use Rattle.code.specs.Code.{arithmetic}
use Rattle.word.specs.Results.{result, result_defined}
use Rattle.machine_step.specs.Step.{Config}
use Rattle.layout_proof.specs.Held.{held, Placed}
use Rattle.layout_proof.proofs.Runs.{Does}
use Rattle.code_proof.specs.Claims.{Sets, OperandsFor}
use Rattle.code_proof.proofs.Puts.{Given}
use Rattle.code_proof.proofs.Records.{plus, times}
use Rattle.code_proof.proofs.Computed.{sum_comm, product_comm, commutative_does, subtraction_does}
use Rattle.code_proof.proofs.Divided.{Stops, quotient_whole, remainder_whole}

module _ (words : ℕ → ℕ) {G : Shape} {N : ℕ} (c : Config) (v : Placed G N c) (t x y : ℕ) (f : Given G t) (g : Given G x) (k : Given G y) where
  pub arithmetic_does : (o : Calculation) → OperandsFor o t x y → result_defined o (held c x) (held c y) ≡ true
      → Does words (arithmetic G o t x y) c (Sets t (result o (held c x) (held c y)) c)
  arithmetic_does Add n e = commutative_does words c v t x y f g k plus (sum_comm (held c x) (held c y))
  arithmetic_does Sub n e = subtraction_does words c v t x y f g k
  arithmetic_does Mul n e = commutative_does words c v t x y f g k times (product_comm (held c x) (held c y))
  arithmetic_does Div n e = (quotient_whole words c v t x y f g k n).0 e
  arithmetic_does Rem n e = (remainder_whole words c v t x y f g k n).0 e

  pub arithmetic_stops : (o : Calculation) → OperandsFor o t x y → result_defined o (held c x) (held c y) ≡ false → Stops words (arithmetic G o t x y) c t
  arithmetic_stops Add n e = never (sym e)
  arithmetic_stops Sub n e = never (sym e)
  arithmetic_stops Mul n e = never (sym e)
  arithmetic_stops Div n e = (quotient_whole words c v t x y f g k n).1 e
  arithmetic_stops Rem n e = (remainder_whole words c v t x y f g k n).1 e
