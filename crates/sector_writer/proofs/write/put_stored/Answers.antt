-- `sector_writer::write::put_stored` meets its contract: what passed the tests may be written. Assumes nothing.
use mathlib.Core.Path.{sym}
use native.Mathlib.Nat.{le_trans}
use lib.ListN.{length-map}
use Rattle.sector_table.specs.declared.layout.Layout.{Layout}
use Rattle.write_refusals.proofs.Writable.{pixels_writable, ready}
use Rattle.sector_writer.proofs.write.put_stored.Goals as goal

pub layout_of-requires : goal.layout_of-requires
layout_of-requires g c =
    let h = pixels_writable _ _ _ _ _ _ (sym c.in_ok-pixels_refusal.ensures) in
    (le_trans c.requires.0 h.low, le_trans h.high c.requires.1)

pub write_row-requires : goal.write_row-requires
write_row-requires g c =
    let h = pixels_writable _ _ _ _ _ _ (sym c.in_ok-pixels_refusal.ensures) in
    ready _ c.layout_of.ensures (λ (l : Layout). l.count) c.requires.0 c.requires.1 (rw (length-map c.args.pixels.now g.T.Stored.number) at h)
