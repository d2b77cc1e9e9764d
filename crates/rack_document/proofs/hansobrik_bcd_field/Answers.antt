-- `rack_document::hansobrik_bcd_field` meets its contract. Assumes nothing.
use mathlib.Core.Path.{ap, ◌∙◌}
use Rattle.document_fields.proofs.Settled.{bcd_field_is}
use Rattle.rack_number.specs.Number.{bcd_given}
use Rattle.rack_document.proofs.hansobrik_bcd_field.Goals as goal

pub returns : goal.returns
returns c = c.into.ensures ∙ ap bcd_given (bcd_field_is _ _ _ _ _ c.bcd_field.ensures)
