-- `line_bytes::across` meets its contract. Assumes nothing.
use Rattle.line_bytes.proofs.Copying.{across_is}
use Rattle.line_bytes.proofs.across.Goals as goal

pub returns : goal.returns
returns c = across_is c.args.left c.args.byte c.args.next c.requires c.ranges.next.fits
