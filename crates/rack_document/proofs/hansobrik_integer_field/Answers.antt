-- `rack_document::hansobrik_integer_field` meets its contract. Assumes nothing.
use mathlib.Core.Path.{ap, ◌∙◌}
use Rattle.document_fields.proofs.Settled.{integer_field_is}
use Rattle.rack_number.specs.Number.{integer_given}
use Rattle.rack_document.proofs.hansobrik_integer_field.Goals as goal

pub returns : goal.returns
returns c = c.into.ensures ∙ ap integer_given (integer_field_is _ _ _ _ _ c.integer_field.ensures)
