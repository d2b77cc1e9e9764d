-- `line_bits::low` meets its contract. Assumes nothing.
use Rattle.reader_bits.proofs.Masks.{low_is}
use Rattle.line_bits.proofs.low.Goals as goal

pub returns : goal.returns
returns c = low_is c.args.byte c.args.n c.requires
