-- `reader_record::fits` meets its contract. Assumes nothing.
use Rattle.reader_bits.proofs.Masks.{fits_is}
use Rattle.reader_record.proofs.fits.Goals as goal

pub returns : goal.returns
returns c = fits_is c.args.value c.args.count
