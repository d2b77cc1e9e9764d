-- `writer::write_line` meets its contract. Assumes nothing.
use Rattle.bits.proofs.Below.{below_all}
use Rattle.refusals.proofs.Numbers.{refused_first, passed_first}
use Rattle.refusals.proofs.Lent.{lent_err}
use Rattle.writer.specs.Wire.{write_line_refusal, write_line_left}
use Rattle.writer.proofs.Ways.{write_number, can_put, write_done}
use Rattle.writer.proofs.write_line.Goals as goal

pub returns-in_err-f : goal.returns-in_err-f
unfolding write_line_refusal write_line_left
returns-in_err-f c = lent_err _ _ _ _ _ _ _ c.from_residual.ensures.1 (refused_first _ _ _ c.in_err-f.ensures.0)

pub returns-in_err-enough : goal.returns-in_err-enough
unfolding write_line_left
returns-in_err-enough c =
    let args = c.args in
    let short = refused_first _ _ _ c.in_err-enough.ensures in
    lent_err _ _ _ _ _ _ _ c.from_residual-in_err-enough.ensures.1 (write_number args.format args.line.now args.out.now c.in_ok-f.f c.in_ok-f.ensures _ short)

pub returns-in_err-enough-2 : goal.returns-in_err-enough-2
unfolding write_line_left
returns-in_err-enough-2 c =
    let args = c.args in
    let short = passed_first _ _ _ c.in_ok-enough.ensures c.in_err-enough-2.ensures in
    lent_err _ _ _ _ _ _ _ c.from_residual-in_err-enough-2.ensures.1 (write_number args.format args.line.now args.out.now c.in_ok-f.f c.in_ok-f.ensures _ short)

pub put_line-requires : goal.put_line-requires
put_line-requires c = can_put c.args.format c.args.line.now c.args.out.now c.in_ok-f.f c.in_ok-f.ensures c.in_ok-enough.ensures c.in_ok-enough-2.ensures

pub returns : goal.returns
returns c =
    let args = c.args in
    write_done args.format args.line.now args.out.now c.in_ok-f.f c.in_ok-f.ensures _ c.in_ok-enough.ensures c.in_ok-enough-2.ensures
    (below_all 256 args.out.now (λ i. (c.slice_known-1.given i).fits))
    (below_all 256 _ (λ i. (c.type_inv.out i).fits))
    c.put_line.ensures
