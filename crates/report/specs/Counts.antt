-- How many blocks are on the linear list, on the lazy list, held, and never used; and how many to fit for the orders played.
use Rattle.std.specs.Prelude.{ℕ, List, ◌++◌}
use Rattle.text.specs.Text.{ascii}
use Rattle.report.specs.Parts.{counted}

unfoldable pub blocks_line : ℕ → ℕ → ℕ → ℕ → List ℕ
blocks_line linear lazy held untouched =
    counted "blocks: linear " linear ++ counted ", lazy " lazy ++ counted ", held " held ++ counted ", untouched " untouched ++ ascii "\n"

-- the most blocks that were reachable at once, and the heap to fit for it
unfoldable pub fit_lines : ℕ → ℕ → ℕ → ℕ → ℕ → List ℕ
fit_lines accepted refused peak blocks bytes =
    counted "orders: accepted " accepted ++ counted ", refused " refused ++ counted "\npeak: blocks " peak ++ counted "\nto fit: blocks " blocks ++ counted ", bytes " bytes ++ ascii "\n"
