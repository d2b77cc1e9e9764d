-- `line_bytes::copy_across` meets its contract. Assumes nothing.
use mathlib.Core.Path.{◌≡◌}
use Prim.Native.Nat.{◌<◌}
use native.Mathlib.Omega.{arith}
use lib.ListN.{length}
use Rattle.line_bytes.proofs.Copying.{copied_first, copied_next}
use borrow.Author.Rules.{rules}
use Rattle.line_bytes.proofs.copy_across.Goals as goal

pub loop-i-init : goal.loop-i-init
loop-i-init c = λ buf one. one

pub loop-i-preserved : goal.loop-i-preserved
loop-i-preserved c = λ buf one. copied_next c.across-in-loop-i.result (c.loop-i.invariant buf one) (search rules) (search rules) c.across-in-loop-i.ensures

pub returns : goal.returns
returns c =
    let past : c.loop-i.i ≡ c.args.n = omega (arith, c.requires.3) in
    let room : c.args.first < length c.args.line.now = omega (arith, c.requires.2, c.requires.3) in
    let one = copied_first {buf = c.args.line.now} c.across.result room c.across.ensures in
    rw past at (c.loop-i.invariant _ one)
