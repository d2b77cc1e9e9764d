-- `numbers::read_bcd` meets its contract: the digits are looked at last. Assumes nothing.
use Rattle.numbers.specs.Decimals.{digits_in, read_bcd_refusal}
use Rattle.numbers.proofs.Ranges.{answers_after}
use Rattle.numbers.proofs.read_bcd.Goals as goal

pub returns : goal.returns
unfolding read_bcd_refusal digits_in
returns c = answers_after _ _ _ _ c.decimal.result c.in_ok-sized.ensures c.decimal.ensures
