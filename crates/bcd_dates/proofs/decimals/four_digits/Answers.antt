-- `bcd_dates::decimals::four_digits` meets its contract: what was read has no more digits. Assumes nothing.
use borrow.Author.Rules.{rules}
use Rattle.bcd_dates.proofs.Digits.{digits_given}
use Rattle.bcd_dates.proofs.decimals.four_digits.Goals as goal

pub overflow_cast-result : goal.overflow_cast-result
overflow_cast-result c = let h = digits_given _ _ 2 _ _ c.bcd_in.ensures c.unwrap_or.ensures in search rules

pub returns : goal.returns
returns c = digits_given _ _ 2 _ _ c.bcd_in.ensures c.unwrap_or.ensures
