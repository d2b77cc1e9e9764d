-- `set_bits::count_set` meets its contract: the bits before a whole byte, the words, and the rest. Assumes nothing.
use native.Mathlib.Omega.{arith}
use Rattle.set_bits.proofs.Stretches.{three_stretches}
use Rattle.set_bits.proofs.count_set.Goals as goal

pub returns : goal.returns
returns c =
    let args = c.args in
    let x = c.set_in_fields-first in
    let y = c.set_in_words-middle in
    let z = c.set_in_fields-2 in
    (three_stretches args.s.now args.from _ _ _ _ _ _ x.ensures.0 y.ensures.0 z.ensures.0 (omega arith) (omega arith) (omega arith), omega arith)
