-- `rack_entries::hansobrik_elements` meets its contract. Assumes nothing.
use mathlib.Core.Path.{ap, ◌∙◌}
use Rattle.blocks.specs.declared.assembly.Assembly.{Assembly}
use Rattle.entries.specs.Entries.{elements_answer}
use Rattle.entries.proofs.Settled.{elements_is}
use Rattle.rack_entries.specs.Entry.{orbit_given}
use Rattle.rack_entries.proofs.hansobrik_elements.Goals as goal

pub returns : goal.returns
returns c =
    let a = c.args in
    c.from-2.ensures ∙ ap orbit_given (elements_is _ _ _ _ c.elements.ensures ∙ ap (λ (x : Assembly). elements_answer a.format x.marks a.block.now) c.from.ensures)
