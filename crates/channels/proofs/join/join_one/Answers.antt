-- `channels::join::join_one` meets its contract: the two fields are the numbers of their bits. Assumes nothing.
use mathlib.Core.Path.{refl}
use Rattle.channels.proofs.join.join_one.Goals as goal

pub returns : goal.returns
returns c = simp (c.field.ensures.0, c.field-2.ensures.0) refl
