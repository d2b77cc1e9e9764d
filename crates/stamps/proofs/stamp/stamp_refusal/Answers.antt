-- `stamps::stamp::stamp_refusal` meets its contract. Assumes nothing.
use mathlib.Core.Path.{ap, ◌∙◌}
use Rattle.refusals.proofs.Numbers.{passed_first}
use Rattle.bcd_dates.specs.Dates.{date_in_refusal}
use Rattle.stamps.specs.Stamps.{stamp_refusal}
use Rattle.bcd_dates.proofs.Parts.{behind}
use Rattle.stamps.proofs.stamp.stamp_refusal.Goals as goal

pub returns : goal.returns
unfolding stamp_refusal
returns c = passed_first _ _ _ c.in_ok-part_refusal.ensures (c.date_refusal.ensures ∙ ap date_in_refusal (behind c.args.stamp.now 2))
