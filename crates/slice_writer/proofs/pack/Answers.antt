-- `slice_writer::pack` meets its contract. Assumes nothing.
use native.Mathlib.Omega.{arith}
use Rattle.slice_writer.proofs.Packs.{packing_turn}
use Rattle.slice_writer.proofs.pack.Goals as goal

pub loop-v-preserved : goal.loop-v-preserved
loop-v-preserved g c =
    let i = c.loop-v in
    (omega (arith, i.invariant.0), packing_turn _ _ _ _ _ _ _ _ _ _ _ i.invariant.0 c.loop-v-test.true c.requires.0 c.v-item.is c.number.ensures i.invariant.1 c.put_field.ensures)
