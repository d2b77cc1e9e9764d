-- `wire_bits::mix_bytes` meets its contract. Assumes nothing.
use mathlib.Core.Path.{◌≡◌}
use Prim.Native.Nat.{◌+◌, ◌-◌, ◌*◌, ◌/◌, ◌≤◌}
use native.Mathlib.Omega.{arith}
use lib.ListN.{length}
use Rattle.runs.proofs.Puts.{mixed_two}
use Rattle.wire_bits.proofs.mix_bytes.Goals as goal

pub returns : goal.returns
returns c =
    let args = c.args in
    let done = args.n / 8 * 8 in
    let all : done + (args.n - done) ≡ args.n = omega arith in
    let fits : args.first + done + (args.n - done) ≤ length args.s.now = omega (arith, c.requires.0) in
    rw all at (mixed_two {m = done} fits c.mix_words-a.ensures c.mix_each.ensures)
