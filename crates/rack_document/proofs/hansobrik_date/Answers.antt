-- `rack_document::hansobrik_date` meets its contract. Assumes nothing.
use mathlib.Core.Path.{ap, ◌∙◌}
use Rattle.document_stamps.proofs.Settled.{date_is}
use Rattle.rack_document.specs.Documentation.{date_given}
use Rattle.rack_document.proofs.hansobrik_date.Goals as goal

pub returns : goal.returns
returns c = c.into.ensures ∙ ap date_given (date_is _ _ _ c.date.ensures)
