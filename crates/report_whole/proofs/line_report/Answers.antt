-- `report_whole::line_report` meets its contract. Assumes nothing.
use mathlib.Core.Path.{refl}
use mathlib.Core.List.{[], ◌∷◌}
use native.Mathlib.Omega.{arith}
use Rattle.bits.specs.Bits.{bits_of}
use Rattle.report_line.proofs.Sectors.{pair_line, wide_line, report_one, tally_at_is}
use Rattle.report_whole.proofs.line_report.Goals as goal

pub returns : goal.returns
returns c = let a = c.args in
    let b = bits_of a.line.now in
    let ts = c.line_sectors-sectors.result in
    let row = c.line_sectors-sectors.ensures in
    report_one a.start b ts _ _ _ _ row
    (pair_line a.start 1 b _ _ _ refl (tally_at_is a.start (b ∷ []) ts 1 (omega arith) row) (tally_at_is a.start (b ∷ []) ts 8 (omega arith) row) c.pair_channel.ensures)
    (pair_line a.start 2 b _ _ _ refl (tally_at_is a.start (b ∷ []) ts 2 (omega arith) row) (tally_at_is a.start (b ∷ []) ts 9 (omega arith) row) c.pair_channel-2.ensures)
    (pair_line a.start 3 b _ _ _ refl (tally_at_is a.start (b ∷ []) ts 3 (omega arith) row) (tally_at_is a.start (b ∷ []) ts 10 (omega arith) row) c.pair_channel-3.ensures)
    (wide_line a.start b _ _ (tally_at_is a.start (b ∷ []) ts 11 (omega arith) row) c.wide_channel.ensures)
