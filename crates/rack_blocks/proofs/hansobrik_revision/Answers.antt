-- `rack_blocks::hansobrik_revision` meets its contract. Assumes nothing.
use mathlib.Core.Path.{ap, ◌∙◌}
use Rattle.blocks.specs.declared.assembly.Assembly.{Assembly}
use Rattle.entries.specs.Entries.{revision_answer}
use Rattle.entries.proofs.Settled.{revision_is}
use Rattle.rack_blocks.specs.Assembly.{revision_given}
use Rattle.rack_blocks.proofs.hansobrik_revision.Goals as goal

pub returns : goal.returns
returns c =
    let a = c.args in
    c.from-2.ensures ∙ ap revision_given (revision_is _ _ _ _ _ c.revision.ensures ∙ ap (λ (x : Assembly). revision_answer a.format x a.number a.block.now) c.from.ensures)
