-- `rack_document::hansobrik_sub_commutation` meets its contract. Assumes nothing.
use mathlib.Core.Path.{ap, ◌∙◌}
use Rattle.document.proofs.Settled.{sub_commutation_is}
use Rattle.rack_document.specs.Documentation.{segment_given}
use Rattle.rack_document.proofs.hansobrik_sub_commutation.Goals as goal

pub returns : goal.returns
returns c = c.into.ensures ∙ ap segment_given (sub_commutation_is _ _ _ c.sub_commutation.ensures)
