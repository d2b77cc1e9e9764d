-- `pixels::values::data` meets its contract: what passed the tests may be read. Assumes nothing.
use mathlib.Core.Path.{sym}
use Rattle.sector_table.specs.Layout.{bytes_of}
use Rattle.sector_table.proofs.Table.{sound}
use Rattle.pixel_refusals.proofs.Readable.{data_readable, ready}
use Rattle.pixels.proofs.values.data.Goals as goal

pub layout_of-requires : goal.layout_of-requires
layout_of-requires c = let h = data_readable _ _ _ _ (sym c.in_ok-data_refusal.ensures) in (h.low, h.high)

pub unpack_data-requires : goal.unpack_data-requires
unpack_data-requires c =
    let h = data_readable _ _ _ _ (sym c.in_ok-data_refusal.ensures) in
    ready bytes_of h c.layout_of.ensures (sound _ h.low h.high)
