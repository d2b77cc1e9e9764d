-- `rack_entries::hansobrik_temperature_f64` meets its contract. Assumes nothing.
use mathlib.Core.Path.{ap, ◌∙◌}
use Rattle.blocks.specs.declared.assembly.Assembly.{Assembly}
use Rattle.calibration.specs.Tables.{temperatures, level_f64_answer}
use Rattle.calibration.proofs.Settled.{level_f64_is}
use Rattle.rack_entries.specs.Entry.{level_f64_given}
use Rattle.rack_entries.proofs.hansobrik_temperature_f64.Goals as goal

pub returns : goal.returns
returns c =
    let a = c.args in
    c.from-2.ensures ∙ ap level_f64_given (level_f64_is _ _ _ _ _ _ _ c.temperature_f64.ensures ∙ ap (λ (x : Assembly). level_f64_answer temperatures a.format x a.block.now a.channel a.level) c.from.ensures)
