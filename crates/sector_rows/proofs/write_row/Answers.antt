-- `sector_rows::write_row` meets its contract: pixels laid into the line, and the frame around them. Assumes nothing.
use mathlib.Core.Path.{◌∙◌}
use mathlib.Core.List.{map}
use native.Mathlib.Omega.{arith}
use lib.ListN.{length-map}
use Rattle.slice_writer.proofs.Packs.{packed_front}
use Rattle.sector_frame.proofs.Frames.{pixels_laid}
use Rattle.sector_rows.proofs.write_row.Goals as goal

pub returns : goal.returns
returns g c =
    let a = c.args in
    let f = g.T.Stored.number in
    c.put_frame.ensures
    ∙ pixels_laid a.start a.l a.line.now _ c.requires.0 c.requires.1 (map f a.pixels.now) (omega (arith, c.requires.2, length-map a.pixels.now f))
    (packed_front _ _ _ _ _ _ _ c.requires.2 c.pack.ensures)
