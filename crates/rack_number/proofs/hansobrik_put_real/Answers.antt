-- `rack_number::hansobrik_put_real` meets its contract. Assumes nothing.
use mathlib.Core.Path.{ap, ◌∙◌}
use Rattle.refusals.specs.Refusals.{answer_number}
use Rattle.number_writer.proofs.Settled.{put_real_is}
use Rattle.rack_number.proofs.hansobrik_put_real.Goals as goal

pub returns : goal.returns
returns c = (c.number_in.ensures ∙ ap answer_number (put_real_is _ _ _ _ _ c.put_real.ensures.put_real_ok), c.put_real.ensures.out_after)
