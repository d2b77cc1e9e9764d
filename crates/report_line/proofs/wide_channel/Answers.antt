-- `report_line::wide_channel` meets its contract. Assumes nothing.
use mathlib.Core.Path.{refl, sym, ap, subst, ◌∙◌}
use native.Mathlib.Omega.{arith}
use borrow.Author.Tests.{eq-eqb}
use Rattle.bits.specs.Bits.{bits_of}
use Rattle.sector_table.specs.declared.layout.Layout.{Layout}
use Rattle.sector_check.specs.Sector.{pixels_of}
use Rattle.report_record.specs.Report.{channel_of}
use Rattle.report_line.proofs.Sectors.{Row, last_row, wide_inside, row_places, row_pixels, wide_none, given_some}
use Rattle.report_line.proofs.wide_channel.Goals as goal

pub returns-then-last-ne1 : goal.returns-then-last-ne1
returns-then-last-ne1 c = wide_none _ _ _ c.default.ensures c.if-last-ne1.true

pub overflow_add-l : goal.overflow_add-l
overflow_add-l c = omega (arith, row_places 10 _ (subst (Row 10) (sym c.layout_of-l.ensures) last_row))

pub wide_run-requires : goal.wide_run-requires
wide_run-requires c = wide_inside _ _ (subst (Row 10) (sym c.layout_of-l.ensures) last_row) c.requires

pub returns : goal.returns
returns c =
    c.wide_run.ensures
    ∙ ap channel_of (row_pixels 10 c.layout_of-l.result c.args.line.now (subst (Row 10) (sym c.layout_of-l.ensures) last_row) c.requires _ refl ∙ ap (λ (l : Layout). pixels_of l (bits_of c.args.line.now)) c.layout_of-l.ensures)
    ∙ given_some _ _ (eq-eqb _ _ c.if-last-ne1.false)
