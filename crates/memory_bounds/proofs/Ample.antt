-- What is ample for more is ample for less; and bounds that numbers of 64 bits hold.
use Prim.Native.Nat.{ℕ, zero, suc, ◌+◌, ◌*◌, ◌-◌, ◌≤◌, ◌<◌}
use mathlib.Core.Path.{◌≡◌, refl}
use mathlib.Core.Bool.{Bool, true}
use native.Mathlib.Nat.{mul-le-mul_left, mul-le-mul_right}
use native.Mathlib.Omega.{arith}
use borrow.Author.Tests.{le-leb}
use Rattle.records.specs.Names.{last_label}
use Rattle.emit.specs.Answers.{ample}
use Rattle.emit.proofs.Wrote.{ample_if}
use Rattle.layout.specs.declared.config.Shape.{Shape}
use Rattle.layout.specs.Config.{Supported}
use Rattle.memory.specs.Objects.{chunks}
use Rattle.memory.proofs.Sizes.{chunks_fill, chunks_few}

pub ample_less : (counter room labels more less : ℕ) {b : Bool} → b ≡ ample counter room labels more → b ≡ true → less ≤ more → true ≡ ample counter room labels less
unfolding ample
ample_less counter room labels more less e t h =
    let fit = ample_if counter room labels more e t in
    rw (le-leb (counter + labels) last_label fit.0, le-leb (24 * less) room (omega (arith, fit.1)))

-- no object has more blocks than so many
pub chunks_most : (g : Shape) → Supported g → (n : ℕ) → n ≤ 4096 → chunks (g.fields - 1) n ≤ 4102
chunks_most g s n h = omega (arith, chunks_few (g.fields - 1) n (omega (arith, s.some)), s.few)

-- no variables fill no block
none_below : (c m : ℕ) → c * m < c → m ≡ 0
none_below c zero h = refl
none_below c (suc m) h = absurd (omega arith)

pub no_blocks : (g : Shape) → Supported g → (n : ℕ) → n ≡ 0 → chunks (g.fields - 1) n ≡ 0
no_blocks g s n e =
    let c : ℕ = g.fields - 1 in
    none_below c (chunks c n) (omega (arith, (chunks_fill c n (omega (arith, s.some))).1))

-- a product of a block's records and the number of blocks
pub product_few : (a m : ℕ) → a ≤ 200 → m ≤ 4102 → a * m ≤ 820400
product_few a m h l = omega (arith, mul-le-mul_right m h, mul-le-mul_left 200 l)
