-- What `channel` prints under `printed` is what the print calls of the runs were given. `prints` is what the contract of `report_state::prints::put_print` cites: the program
-- puts it for each accepted order, one after the other, from the registers and the stack before the order.
use Rattle.std.specs.Prelude.{ℕ, ◌≡◌, true, cond, List, [], ◌∷◌, ◌++◌, eqb}
use Rattle.records.specs.Orders.{order_read}
use Rattle.layout.specs.declared.config.Shape.{Shape}
use Rattle.layout.specs.Config.{Supported}
use Rattle.print_i64.specs.Print.{print_name}
use Rattle.machine_step.specs.Step.{Call}
use Rattle.channel_step.specs.Playing.{Channel, is_accepted, run_of}
use Rattle.report_state.specs.Prints.{printed_text, prints}
use Rattle.soundness.specs.Claims.{Item, reached, After}

-- what a call writes: the word in register 7, and a newline if its name asks for one
abbrev pub call_text : Call → List ℕ
call_text c = printed_text (eqb c.name (print_name true)) c.number

abbrev pub call_texts : List Call → List ℕ
call_texts [] = []
call_texts (c ∷ cs) = call_text c ++ call_texts cs

module _ (g : Shape) where
  -- what the program puts for an item, and what the calls of its run write
  abbrev pub put_for : Channel → Item → List ℕ
  put_for ch it = cond (is_accepted g ch it.asked) (prints g ch.view.reg ch.view.stk (order_read it.asked.order)) []

  abbrev pub called_for : Channel → Item → List ℕ
  called_for ch it = cond (is_accepted g ch it.asked) (call_texts (run_of g ch it.asked it.words).last.calls) []

  -- after a list, the newest item's last
  module _ (blocks : ℕ) where
    abbrev pub put_in : List Item → List ℕ
    put_in [] = []
    put_in (it ∷ its) = put_in its ++ put_for (reached g blocks its) it

    abbrev pub called_in : List Item → List ℕ
    called_in [] = []
    called_in (it ∷ its) = called_in its ++ called_for (reached g blocks its) it

-- wherever the heap stays sound
unfoldable pub PrintedIsCalled : Type 0
PrintedIsCalled = (g : Shape) → Supported g → (blocks : ℕ) (its : List Item) → After g blocks its → put_in g blocks its ≡ called_in g blocks its
