-- `rack_document::hansobrik_real_field` meets its contract. Assumes nothing.
use mathlib.Core.Path.{ap, ◌∙◌}
use Rattle.document_fields.proofs.Settled.{real_field_is}
use Rattle.rack_number.specs.Number.{real_given}
use Rattle.rack_document.proofs.hansobrik_real_field.Goals as goal

pub returns : goal.returns
returns c = c.into.ensures ∙ ap real_given (real_field_is _ _ _ _ _ _ c.real_field.ensures)
