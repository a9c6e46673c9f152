use mathlib.Core.Path.{refl, sym, ap, ◌∙◌}
use Rattle.layout.proofs.Placing.{edited_supported}
use Rattle.heap_chains.specs.declared.Blocks.{Blocks}
use Rattle.port.specs.Blocks.{block_numbers}
use Rattle.port.proofs.axcut_blocks.Goals as goal

pub returns-in_default : goal.returns-in_default
returns-in_default c = rw (sym c.edition_of.ensures ∙ c.in_default.is) (record { answer = refl; told = refl })

pub count_blocks_in-blocks-requires : goal.count_blocks_in-blocks-requires
count_blocks_in-blocks-requires c = edited_supported _ (sym c.edition_of.ensures ∙ c.in-Some.is)

pub to_fit_in-fit-requires : goal.to_fit_in-fit-requires
to_fit_in-fit-requires c = edited_supported _ (sym c.edition_of.ensures ∙ c.in-Some.is)

pub returns : goal.returns
returns c =
    let fit = c.to_fit_in-fit in
    let blocks = c.count_blocks_in-blocks in
    rw (sym c.edition_of.ensures ∙ c.in-Some.is)
    (record { answer = refl; told = ap (λ (b : Blocks). block_numbers b fit.result) blocks.ensures ∙ ap (block_numbers _) fit.ensures })
