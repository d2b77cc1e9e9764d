-- `crc_step::stepped` meets its contract. Assumes nothing.
use mathlib.Core.Path.{refl, ap, ◌∙◌}
use Prim.Native.Nat.{◌/◌, ◌^◌, ◌<◌}
use native.Mathlib.Omega.{arith}
use lib.Bits.{xor_lt}
use Rattle.bits.proofs.Xor.{xor_bits}
use Rattle.crc_step.specs.Remainder.{next}
use Rattle.crc_step.proofs.stepped.Goals as goal

pub step-requires : goal.step-requires
step-requires c =
    let top : c.args.a.start / 2 ^ 15 < 2 = omega arith in
    xor_lt 1 c.args.bit (c.args.a.start / 2 ^ 15) c.requires top

pub returns : goal.returns
returns c =
    let top : c.args.a.start / 2 ^ 15 < 2 = omega arith in
    (c.step.ensures ∙ ap (next c.args.a.rem) (xor_bits c.args.bit (c.args.a.start / 2 ^ 15) c.requires top), refl)
