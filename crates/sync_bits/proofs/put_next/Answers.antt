-- `sync_bits::put_next` meets its contract: what `step` gave is the next scrambling bit, since the register has fifteen bits.
-- Assumes nothing.
use mathlib.Core.Path.{refl, ◌∙◌}
use native.Mathlib.Omega.{arith}
use Rattle.scramble.proofs.Settled.{bit_within, left_within}
use Rattle.scramble.proofs.Steps.{new_bit_lt}
use Rattle.sync_bits.proofs.put_next.Goals as goal

pub put_bit-requires : goal.put_bit-requires
put_bit-requires c =
    let given = bit_within _ _ c.requires.1 c.step.ensures.0 in
    let bit = rw given at c.unwrap_or-bit.ensures in
    (c.requires.0, omega (arith, bit, new_bit_lt c.args.r.bits))

pub returns : goal.returns
returns c =
    let given = bit_within _ _ c.requires.1 c.step.ensures.0 in
    (simp (c.put_bit.ensures, c.unwrap_or-bit.ensures, given) refl, c.step.ensures.1 ∙ left_within _ c.requires.1)
