-- `slice_words::eight_bytes` meets its contract. Assumes nothing.
use mathlib.Core.Path.{◌∙◌}
use Rattle.slice_words.proofs.Bytewise.{from_bytes}
use Rattle.slice_words.proofs.eight_bytes.Goals as goal

pub returns : goal.returns
returns c = let h = c.from_le_bytes.ensures in h ∙ from_bytes c.args.bytes.now
