-- `pixels::values::stored_pixels` meets its contract: what passed the tests may be read. Assumes nothing.
use mathlib.Core.Path.{sym, subst}
use Prim.Native.Nat.{◌≤◌}
use native.Mathlib.Nat.{le_trans}
use lib.ListN.{length-map}
use Rattle.std.proofs.lemmas.Result.{err_from_is_err_and}
use Rattle.refusals.proofs.Numbers.{answers_err, answers_ok}
use Rattle.sector_table.specs.declared.layout.Layout.{Layout}
use Rattle.sector_table.proofs.Table.{sound}
use Rattle.pixel_refusals.proofs.Readable.{pixels_readable, ready}
use Rattle.pixels.specs.Calls.{pixels_left}
use Rattle.pixels.proofs.values.stored_pixels.Goals as goal

pub returns-in_err-pixels_refusal : goal.returns-in_err-pixels_refusal
unfolding pixels_left
returns-in_err-pixels_refusal g c =
    let p = err_from_is_err_and c.from_residual.result c.from_residual.ensures.1 in
    rw (p.1, p.2, length-map c.args.out.now g.T.Stored.number) (answers_err _ _ _ _ c.in_err-pixels_refusal.ensures)

pub layout_of-requires : goal.layout_of-requires
layout_of-requires g c =
    let h = pixels_readable _ _ _ _ _ _ (sym c.in_ok-pixels_refusal.ensures) in
    (le_trans c.requires.0 h.low, le_trans h.high c.requires.1)

pub unpack_pixels-requires : goal.unpack_pixels-requires
unpack_pixels-requires g c =
    let h = pixels_readable _ _ _ _ _ _ (sym c.in_ok-pixels_refusal.ensures) in
    let row = c.layout_of.ensures in
    let there = ready (λ (l : Layout). l.count) h row (sound _ (le_trans c.requires.0 h.low) (le_trans h.high c.requires.1)) in
    (there.0, there.1, subst (λ (l : Layout). l.width ≤ g.T.Stored.room) (sym row) (c.requires.2 _ h.low h.high), there.2)

pub returns : goal.returns
unfolding pixels_left
returns g c =
    rw (length-map c.args.out.now g.T.Stored.number) (answers_ok _ _ _ _ c.in_ok-pixels_refusal.ensures (rw c.layout_of.ensures at c.unpack_pixels.ensures))
