-- `write_refusals::limit_of` meets its contract. Assumes nothing.
use Rattle.bits.proofs.Window.{one_shl}
use Rattle.write_refusals.proofs.limit_of.Goals as goal

pub returns : goal.returns
returns c = one_shl c.args.width c.requires
