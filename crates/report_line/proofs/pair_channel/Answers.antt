-- `report_line::pair_channel` meets its contract. Assumes nothing.
use mathlib.Core.Path.{refl, sym, ap, ap₂, ◌∙◌}
use native.Mathlib.Omega.{arith}
use borrow.Author.Tests.{eq-eqb}
use Rattle.bits.specs.Bits.{bits_of}
use Rattle.sector_table.specs.declared.layout.Layout.{Layout}
use Rattle.sector_check.specs.Sector.{pixels_of, joined_of}
use Rattle.report_record.specs.Report.{channel_of}
use Rattle.report_record.proofs.Rows.{and_both}
use Rattle.report_line.proofs.Sectors.{pair_none, pair_rows, pair_inside, row_places, row_pixels, given_some}
use Rattle.report_line.proofs.pair_channel.Goals as goal

pub returns-then-upper-ne1 : goal.returns-then-upper-ne1
returns-then-upper-ne1 c = pair_none _ c.args.upper.accepted c.args.lower.accepted _ c.default.ensures c.then-upper-ne1.either

pub overflow_add-u : goal.overflow_add-u
overflow_add-u c =
    let p = pair_rows _ _ c.args.channel c.layout_of-u.ensures c.layout_of-l.ensures c.requires.0 c.requires.1 in
    omega (arith, row_places 8 _ p.upper)

pub overflow_add-l : goal.overflow_add-l
overflow_add-l c =
    let p = pair_rows _ _ c.args.channel c.layout_of-u.ensures c.layout_of-l.ensures c.requires.0 c.requires.1 in
    omega (arith, row_places 2 _ p.lower)

pub pair_run-requires : goal.pair_run-requires
pair_run-requires c =
    let p = pair_rows _ _ c.args.channel c.layout_of-u.ensures c.layout_of-l.ensures c.requires.0 c.requires.1 in
    pair_inside _ _ _ _ p c.requires.2

pub returns : goal.returns
returns c =
    let p = pair_rows _ _ c.args.channel c.layout_of-u.ensures c.layout_of-l.ensures c.requires.0 c.requires.1 in
    let s = c.args.line.now in
    c.pair_run.ensures
    ∙ ap channel_of (ap₂ joined_of (row_pixels 8 c.layout_of-u.result s p.upper c.requires.2 _ refl) (row_pixels 2 c.layout_of-l.result s p.lower c.requires.2 _ (p.upper.many ∙ sym p.lower.many))
    ∙ ap₂ (λ (x y : Layout). joined_of (pixels_of x (bits_of s)) (pixels_of y (bits_of s))) c.layout_of-u.ensures c.layout_of-l.ensures)
    ∙ given_some _ _ (and_both _ _ (eq-eqb c.args.upper.accepted 1 (omega arith)) (eq-eqb c.args.lower.accepted 1 (omega arith)))
