use mathlib.Core.Path.{sym, ◌∙◌}
use Rattle.records.proofs.ContextsRead.{context_within}
use Rattle.memory_load.proofs.load.unframed.Goals as goal

-- the variables to load come after the existing ones
pub check_after-requires : goal.check_after-requires
check_after-requires c = (context_within c.args.existing.now _ (sym c.check_context.ensures.answer ∙ c.in_ok-v.was)).0
