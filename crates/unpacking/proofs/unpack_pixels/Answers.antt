-- `unpacking::unpack_pixels` meets its contract. Assumes nothing.
use mathlib.Core.List.{map}
use Rattle.slices.proofs.Unpacked.{unpacked_front}
use Rattle.unpacking.proofs.Unpacked.{pixels_filled}
use Rattle.unpacking.proofs.unpack_pixels.Goals as goal

pub returns : goal.returns
returns g c =
    pixels_filled c.args.l c.args.line.now (map g.T.Stored.number c.args.out.now) _ c.requires.0 c.requires.1
    (unpacked_front _ _ _ _ _ _ c.requires.3 c.unpack.ensures)
