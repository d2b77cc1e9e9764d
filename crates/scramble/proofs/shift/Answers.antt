-- `scramble::shift` meets its contract. Assumes nothing.
use mathlib.Core.Path.{◌∙◌}
use Rattle.scramble.proofs.Steps.{code_bit, code_next}
use Rattle.scramble.proofs.shift.Goals as goal

pub returns : goal.returns
returns c =
    let b = c.args.r.bits in
    let bit = c.low_bit-bit.ensures ∙ code_bit b in
    (code_next b c.low_bit-bit.result bit, bit)
