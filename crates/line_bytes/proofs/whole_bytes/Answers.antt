-- `line_bytes::whole_bytes` meets its contract. Assumes nothing.
use mathlib.Core.Path.{refl}
use Prim.Native.Nat.{zero, ◌<◌}
use native.Mathlib.Omega.{arith}
use Rattle.bits.proofs.Below.{below_all}
use Rattle.line_bytes.proofs.Spanning.{span_mixed}
use borrow.Author.Rules.{rules}
use borrow.Author.Rules.{rules}
use Rattle.line_bytes.proofs.whole_bytes.Goals as goal

pub copy_across-requires : goal.copy_across-requires
copy_across-requires c =
    let w = c.whole-n.ensures in
    let some : zero < c.whole-n.result = omega (arith, c.before.before) in
    (omega (arith, w.inside, c.requires.taken), w.left some, omega (arith, w.more, c.requires.room), some)

pub returns : goal.returns
returns c =
    let at_some = c.before.before.before.before.before.before.before.before.before.before in
    let some : zero < c.whole-n.result = omega (arith, at_some) in
    span_mixed c.requires some c.whole-n.ensures
    (below_all 256 _ (λ i. (c.shared_slice_known-1.given i).fits)) (below_all 256 _ (λ i. (c.slice_known-2-1.given i).fits)) (below_all 256 _ (λ i. (c.slice_known-3-1.given i).fits))
    c.copy_across.ensures c.mix_bytes-after.ensures (search rules) refl
