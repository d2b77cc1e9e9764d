-- `sector_rows::write_bytes` meets its contract: data laid into the line, and the frame around them. Assumes nothing.
use mathlib.Core.Path.{◌∙◌}
use Rattle.sector_frame.proofs.Frames.{data_laid}
use Rattle.sector_rows.proofs.write_bytes.Goals as goal

pub returns : goal.returns
returns c =
    let a = c.args in
    c.put_frame.ensures ∙ data_laid a.start a.l a.line.now _ c.requires.0 c.requires.1 a.bytes.now c.requires.2 c.put_bytes.ensures
