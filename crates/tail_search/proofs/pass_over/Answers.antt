-- `tail_search::pass_over` meets its contract. Assumes nothing.
use mathlib.Core.Path.{refl}
use native.Mathlib.Omega.{arith}
use Rattle.tail_search.proofs.Searching.{passed_byte}
use Rattle.tail_search.proofs.pass_over.Goals as goal

pub loop-taken-preserved : goal.loop-taken-preserved
loop-taken-preserved c =
    let at-loop = c.before.before.before.before.before in
    passed_byte _ c.loop-taken.invariant (omega (arith, at-loop.before)) refl (c.type_inv.piece c.loop-taken.taken).fits c.loop-taken-test.true
    (c.passes.ensures (c.if-not-passes.false))
