-- A choice between two trees is well formed where each part is, under its test where it needs that; and registers and offsets that fit.
use Prim.Native.Nat.{ℕ, ◌^◌, ◌≤◌, ◌<◌}
use mathlib.Core.Bool.{Bool, cond}
use native.Mathlib.Decide.{dec_lt}
use native.Mathlib.Omega.{arith}
use lib.Dec.{ltb}
use borrow.Author.Tests.{lt-ltb, le-ltb}
use Rattle.records.proofs.Conditions.{both_ways}
use Rattle.trees.specs.Tree.{Tree}
use Rattle.layout.specs.declared.config.Shape.{Shape}
use Rattle.layout.specs.Config.{Supported, STACK, TEMP, HEAP, FREE, RETURN1, RETURN2, stack_offset, fst_offset, snd_offset, MINUSONE, register_for}
use Rattle.order_formed_proof.proofs.Formed.{Formed}

-- where the test does not matter
pub either : (b : Bool) {t u : Tree} → Formed t → Formed u → Formed (cond b t u)
either = both_ways Formed

-- by whether an operand is a register or a spill
pub on_operand : (w : ℕ) {t u : Tree} → (w < 16 → Formed t) → (16 ≤ w → Formed u) → Formed (cond (ltb w 16) t u)
on_operand w {t} {u} f h = by (dec_lt w 16)
  where
    by : Dec (w < 16) → Formed (cond (ltb w 16) t u)
    by (yes l) = rw (lt-ltb w 16 l) (f l)
    by (no l) = let m : 16 ≤ w = omega arith in rw (le-ltb w 16 m) (h m)

-- an operand's spill stands below the frame's end from STACK
pub offset_fits : (G : Shape) → Supported G → (w : ℕ) → stack_offset G w < 2 ^ 64
unfolding stack_offset
offset_fits G sup w = omega (arith, sup.frame)

pub zero_fits : 0 < 2 ^ 64
zero_fits = omega arith

pub minus_one_fits : MINUSONE < 2 ^ 64
minus_one_fits = omega arith

-- a field's two words
module _ (t : ℕ) (h : t < 65536) where
  pub fst_fits : fst_offset t < 2 ^ 64
  fst_fits = omega arith

  pub snd_fits : snd_offset t < 2 ^ 64
  snd_fits = omega arith

pub stack : STACK < 16
stack = omega arith

pub temp : TEMP < 16
temp = omega arith

pub heap : HEAP < 16
heap = omega arith

pub free : FREE < 16
free = omega arith

pub return1 : RETURN1 < 16
return1 = omega arith

pub return2 : RETURN2 < 16
return2 = omega arith

-- an operand itself, or TEMP for a spill
pub block_register : (w : ℕ) → register_for w < 16
block_register w = by (dec_lt w 16)
  where
    by : Dec (w < 16) → cond (ltb w 16) w TEMP < 16
    by (yes l) = rw (lt-ltb w 16 l) l
    by (no l) = let m : 16 ≤ w = omega arith in rw (le-ltb w 16 m) temp
