-- `wire_steps::mix_byte` meets its contract. Assumes nothing.
use native.Mathlib.Omega.{arith}
use Rattle.runs.proofs.Far.{key_at_lt}
use Rattle.wire_steps.proofs.Shifts.{code_byte}
use Rattle.wire_steps.proofs.mix_byte.Goals as goal

pub overflow_cast-result : goal.overflow_cast-result
overflow_cast-result c = omega (arith, c.shift_by-key.ensures.1, key_at_lt 8 c.args.r.bits)

pub returns : goal.returns
returns c =
    let args = c.args in
    (code_byte args.place args.r.bits args.byte _ _ c.group_byte.ensures c.shift_by-key.ensures.1, c.shift_by-key.ensures.0)
