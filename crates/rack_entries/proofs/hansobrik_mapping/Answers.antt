-- `rack_entries::hansobrik_mapping` meets its contract. Assumes nothing.
use mathlib.Core.Path.{ap, ◌∙◌}
use Rattle.blocks.specs.declared.assembly.Assembly.{Assembly}
use Rattle.entries.specs.Entries.{mapping_answer}
use Rattle.entries.proofs.Settled.{mapping_is}
use Rattle.rack_entries.specs.Entry.{grid_given}
use Rattle.rack_entries.proofs.hansobrik_mapping.Goals as goal

pub returns : goal.returns
returns c =
    let a = c.args in
    c.from-2.ensures ∙ ap grid_given (mapping_is _ _ _ _ _ _ c.mapping.ensures ∙ ap (λ (x : Assembly). mapping_answer a.format x.marks a.block.now a.row a.column) c.from.ensures)
