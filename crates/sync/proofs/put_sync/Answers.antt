-- `sync::put_sync` meets its contract. Assumes nothing.
use mathlib.Core.Path.{sym}
use native.Mathlib.Omega.{arith}
use Rattle.std.specs.Prelude.{Ok, Err}
use Rattle.bits.proofs.Below.{below_all}
use Rattle.formats.proofs.Settled.{format_is}
use Rattle.formats.proofs.Which.{parts}
use Rattle.refusals.proofs.Words.{enough}
use Rattle.sync.proofs.Opening.{before_small}
use Rattle.sync.proofs.Putting.{sync_refused, sync_short, sync_done}
use Rattle.sync.proofs.put_sync.Goals as goal

pub returns-in_err-f : goal.returns-in_err-f
returns-in_err-f c = sync_refused c.args.format c.args.out.now _ _ c.from_residual.ensures.1 (sym (format_is c.args.format (Err _) c.in_err-f.ensures))

pub returns-in_err-enough : goal.returns-in_err-enough
returns-in_err-enough c =
    sync_short c.args.format c.args.out.now c.in_ok-f.f c.in_ok-f.ensures _ _ c.from_residual-in_err-enough.ensures.1 c.in_err-enough.ensures

pub put_scrambling-requires : goal.put_scrambling-requires
put_scrambling-requires c =
    let facts = parts c.args.format c.in_ok-f.f (sym (format_is c.args.format (Ok c.in_ok-f.f) c.in_ok-f.ensures)) in
    let room = enough _ _ 3 (λ z. omega arith) (sym c.in_ok-enough.ensures) in
    (omega (arith, facts.sync_whole, room), omega (arith, facts.sync_whole, facts.all, facts.small), rw c.before_sync.ensures (before_small _))

pub returns : goal.returns
returns c =
    sync_done c.args.format c.args.out.now c.in_ok-f.f c.in_ok-f.ensures _ _ c.in_ok-enough.ensures
    (below_all 256 c.args.out.now (λ i. (c.slice_known-1.given i).fits))
    (below_all 256 _ (λ i. (c.slice_known-2-1.given i).fits))
    c.before_sync.ensures
    c.put_scrambling.ensures.0
