-- `wire_steps::group_word` meets its contract. Assumes nothing.
use Rattle.wire_steps.proofs.Shifts.{code_groups}
use Rattle.wire_steps.proofs.group_word.Goals as goal

pub returns : goal.returns
returns c =
    code_groups c.args.place _ _ c.group_byte-even.ensures c.group_byte-odd.ensures
