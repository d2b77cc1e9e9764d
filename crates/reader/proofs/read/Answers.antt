-- `reader::read` meets its contract: each return is one of its ways. Assumes nothing.
use mathlib.Core.Path.{◌∙◌}
use native.Mathlib.Omega.{arith}
use Rattle.reader_record.proofs.Checked.{counts_true_in}
use Rattle.reader.proofs.Ways.{known, read_refused, read_none, read_call, call_in, call_out, call_as, sought_none, sought_found, fill_found, fill_in}
use Rattle.reader.proofs.read.Goals as goal

pub returns-in_err-read_refusal : goal.returns-in_err-read_refusal
returns-in_err-read_refusal c =
    let args = c.args in
    read_refused args.format args.setting args.state args.piece.now args.line.now _ _ c.from_residual.ensures.1 c.in_err-read_refusal.ensures

pub returns-then-is_empty : goal.returns-then-is_empty
returns-then-is_empty c =
    let args = c.args in
    read_none args.format args.setting args.state args.piece.now args.line.now c.in_ok-read_refusal.ensures c.if-is_empty.ensures

pub to_line-requires : goal.to_line-requires
to_line-requires c = let k = known _ _ _ _ c.in_ok-read_refusal.ensures in fill_in k.0 c.if-state.true k.1

pub returns-then-state : goal.returns-then-state
returns-then-state c =
    let args = c.args in
    let k = known _ _ _ _ c.in_ok-read_refusal.ensures in
    read_call args.format args.setting args.state args.piece.now args.line.now c.in_ok-read_refusal.ensures c.if-is_empty.ensures
    (call_as (c.to_line.ensures.at args.setting)
    (call_in args.setting args.state args.piece.now args.line.now c.if-is_empty.ensures c.if-state.true (counts_true_in args.state c.if-state.true k.0.counts).1))

pub seek-requires : goal.seek-requires
seek-requires c = let f = (known _ _ _ _ c.in_ok-read_refusal.ensures).0 in (f.count, f.remembered, omega (arith, f.seven))

pub to_line-requires-in-Found : goal.to_line-requires-in-Found
to_line-requires-in-Found c =
    let k = known _ _ _ _ c.in_ok-read_refusal.ensures in
    fill_found c.seek.ensures c.in-Found.is (omega arith) (omega arith) k.1

pub returns-in-Nothing : goal.returns-in-Nothing
returns-in-Nothing c =
    let args = c.args in
    read_call args.format args.setting args.state args.piece.now args.line.now c.in_ok-read_refusal.ensures c.if-is_empty.ensures
    (call_as (sought_none args.line.now c.seek.ensures c.in-Nothing.is c.between.ensures)
    (call_out args.setting args.state args.piece.now args.line.now c.if-is_empty.ensures c.if-state.false))

pub returns-in-Found : goal.returns-in-Found
returns-in-Found c =
    let args = c.args in
    read_call args.format args.setting args.state args.piece.now args.line.now c.in_ok-read_refusal.ensures c.if-is_empty.ensures
    (call_as (c.to_line-in-Found.ensures.at args.setting)
    (call_out args.setting args.state args.piece.now args.line.now c.if-is_empty.ensures c.if-state.false ∙ sought_found args.line.now c.seek.ensures c.in-Found.is))
