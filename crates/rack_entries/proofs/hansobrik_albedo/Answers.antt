-- `rack_entries::hansobrik_albedo` meets its contract. Assumes nothing.
use mathlib.Core.Path.{ap, ◌∙◌}
use Rattle.blocks.specs.declared.assembly.Assembly.{Assembly}
use Rattle.calibration.specs.Tables.{albedos, level_answer}
use Rattle.calibration.proofs.Settled.{level_is}
use Rattle.rack_entries.specs.Entry.{level_given}
use Rattle.rack_entries.proofs.hansobrik_albedo.Goals as goal

pub returns : goal.returns
returns c =
    let a = c.args in
    c.from-2.ensures ∙ ap level_given (level_is _ _ _ _ _ _ _ c.albedo.ensures ∙ ap (λ (x : Assembly). level_answer albedos a.format x a.block.now a.channel a.level) c.from.ensures)
