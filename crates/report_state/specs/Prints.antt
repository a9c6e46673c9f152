-- What an order's print call writes: the integer of the variable that it names, as the print routines write it.
use Rattle.records.specs.declared.check.Malformed.{Malformed}
use Rattle.std.specs.Prelude.{ℕ, ◌+◌, ◌*◌, Bool, cond, List, [], ◌++◌, ltb, length, Err, Ok, Result}
use Rattle.records.specs.declared.order.Order.{Order}
use Rattle.records.specs.declared.order.Order.TheVariants.{Put, Compute, Copy, Drop, Store, Load, Print}
use Rattle.records.specs.Orders.{order_read}
use Rattle.text.specs.Text.{ascii, signed_decimal}
use Rattle.layout.specs.declared.config.Shape.{Shape}
use Rattle.layout.specs.Config.{in_choice, positions, frame_on}
use Rattle.layout.specs.Positions.{location}
use Rattle.layout.specs.Frame.{held_in}
use Rattle.machine_step.specs.View.{words_of, from_end}

-- the integer, and a newline if asked
unfoldable pub printed_text : Bool → ℕ → List ℕ
printed_text newline integer = cond newline (signed_decimal integer ++ ascii "\n") (signed_decimal integer)

-- registers, and the stack's words from its end
module _ (reg stk : ℕ → ℕ) where
  -- the word at a variable's Snd
  unfoldable pub word_of : ℕ → ℕ
  word_of place = held_in reg stk (location (2 * place + 1))

module _ (g : Shape) (reg stk : ℕ → ℕ) where
  -- nothing for a variable that has no position, and for other orders
  unfoldable pub prints_of : Order → List ℕ
  prints_of (Put value) = []
  prints_of (Compute operation a b) = []
  prints_of (Copy a n) = []
  prints_of Drop = []
  prints_of (Store n tag) = []
  prints_of (Load n) = []
  prints_of (Print newline a) = cond (ltb (2 * a + 1) (positions g)) (printed_text newline (word_of reg stk a)) []

  unfoldable pub prints : Result Order Malformed → List ℕ
  prints (Ok order) = prints_of order
  prints (Err bad) = []

-- on lent registers and stack, by the order's bytes; nothing where the stack is not the frame's
abbrev pub prints_on : ℕ → List ℕ → List ℕ → List ℕ → List ℕ
prints_on frame order registers stack = in_choice (frame_on frame (length stack)) (λ g. prints g (words_of registers) (from_end stack) (order_read order)) []
