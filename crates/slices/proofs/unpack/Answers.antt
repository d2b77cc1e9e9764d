-- `slices::unpack` meets its contract. Assumes nothing.
use native.Mathlib.Omega.{arith}
use Rattle.slices.proofs.Unpacked.{fits_room, unpacked_more, unpacked_all}
use Rattle.slices.proofs.unpack.Goals as goal

pub stored-requires : goal.stored-requires
stored-requires g c = fits_room _ _ _ c.requires.3 c.field.ensures.1

pub loop-x-preserved : goal.loop-x-preserved
loop-x-preserved g c =
    let i = c.loop-x in
    (omega (arith, i.invariant.0), unpacked_more _ _ _ _ _ _ _ _ _ _ i.invariant.0 c.field.ensures.0 c.stored.ensures (omega arith) i.invariant.1)

pub returns : goal.returns
returns g c =
    let i = c.loop-x in
    unpacked_all _ _ _ _ _ c.args.out.now (omega (arith, c.loop-x-test.false, i.auto.x-index-end)) i.invariant.1
