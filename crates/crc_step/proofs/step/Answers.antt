-- `crc_step::step` meets its contract. Assumes nothing.
use native.Mathlib.Omega.{arith}
use Rattle.crc_step.proofs.Steps.{out_one, out_none}
use Rattle.crc_step.proofs.step.Goals as goal

pub returns-then-rem-eq1 : goal.returns-then-rem-eq1
returns-then-rem-eq1 c = out_one c.args.rem c.args.bit c.requires c.if-rem-eq1.true

pub returns-else-rem-eq1 : goal.returns-else-rem-eq1
returns-else-rem-eq1 c = out_none c.args.rem c.args.bit c.requires (omega (arith, c.ranges.rem, c.if-rem-eq1.false))
