-- `write_refusals::pixels_refusal` meets its contract: a sector that is served is a row of the table. Assumes nothing.
use mathlib.Core.Path.{sym}
use native.Mathlib.Nat.{le_trans}
use lib.ListN.{length-map}
use Rattle.refusals.proofs.Numbers.{passed_first}
use Rattle.sector_table.proofs.Admitted.{served}
use Rattle.sector_table.proofs.Table.{sound_row}
use Rattle.write_refusals.specs.Refusing.{put_pixels_answer}
use Rattle.write_refusals.proofs.pixels_refusal.Goals as goal

pub layout_of-l-requires : goal.layout_of-l-requires
layout_of-l-requires g c =
    let h = served _ _ _ _ (sym c.in_ok-asked.ensures) in
    (le_trans c.requires.0 h.low, le_trans h.high c.requires.1)

pub limit_of-requires : goal.limit_of-requires
limit_of-requires g c =
    let h = served _ _ _ _ (sym c.in_ok-asked.ensures) in
    (sound_row _ _ c.layout_of-l.ensures (le_trans c.requires.0 h.low) (le_trans h.high c.requires.1)).narrow

pub returns : goal.returns
unfolding put_pixels_answer
returns g c =
    rw (length-map c.args.pixels.now g.T.Stored.number)
    (passed_first _ _ _ c.in_ok-asked.ensures
    (passed_first _ _ _ (rw (c.limit_of.ensures, c.layout_of-l.ensures) at c.in_ok-over.ensures) (rw c.layout_of-l.ensures at c.input_short.ensures)))
