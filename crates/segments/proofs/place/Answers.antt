-- `segments::place` meets its contract. Assumes nothing.
use mathlib.Core.Path.{sym, ap, ◌∙◌}
use Rattle.blocks.specs.declared.assembly.Revisions.{Revisions}
use Rattle.revisions.specs.Carried.{remembered}
use Rattle.copies.specs.Copies.{place_refusal}
use Rattle.segments.proofs.Known.{placed_refused, placed_again, placed_new}
use Rattle.segments.proofs.place.Goals as goal

pub returns-in_err-place_refusal : goal.returns-in_err-place_refusal
returns-in_err-place_refusal c =
    let a = c.args in
    placed_refused _ _ _ _ _ _ _ c.from_residual.ensures.1
    (c.in_err-place_refusal.ensures ∙ ap (λ (r : Revisions). place_refusal a.number a.assembly r a.line.now a.segment a.block.now) c.revisions_in-carried.ensures)

pub returns-then-is_marked : goal.returns-then-is_marked
returns-then-is_marked c =
    let a = c.args in
    let none = c.in_ok-place_refusal.ensures ∙ ap (λ (r : Revisions). place_refusal a.number a.assembly r a.line.now a.segment a.block.now) c.revisions_in-carried.ensures in
    let from-now-on = c.remembered-revisions.ensures ∙ ap (remembered a.assembly) c.revisions_in-carried.ensures in
    placed_again a.number a.assembly a.line.now a.segment a.block.now _ none (sym c.is_marked.ensures ∙ c.if-is_marked.true) from-now-on

pub returns : goal.returns
returns c =
    let a = c.args in
    let none = c.in_ok-place_refusal.ensures ∙ ap (λ (r : Revisions). place_refusal a.number a.assembly r a.line.now a.segment a.block.now) c.revisions_in-carried.ensures in
    let from-now-on = c.remembered-revisions.ensures ∙ ap (remembered a.assembly) c.revisions_in-carried.ensures in
    placed_new a.number a.assembly a.line.now a.segment a.block.now _ _ _ _ none (sym c.is_marked.ensures ∙ c.if-is_marked.false) from-now-on
    c.with_mark.ensures c.store.ensures c.block_of.ensures
