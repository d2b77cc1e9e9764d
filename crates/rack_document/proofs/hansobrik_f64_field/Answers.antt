-- `rack_document::hansobrik_f64_field` meets its contract. Assumes nothing.
use mathlib.Core.Path.{ap, ◌∙◌}
use Rattle.document_fields.proofs.Settled.{f64_field_is}
use Rattle.rack_number.specs.Number.{float_given}
use Rattle.rack_document.proofs.hansobrik_f64_field.Goals as goal

pub returns : goal.returns
returns c = c.into.ensures ∙ ap float_given (f64_field_is _ _ _ _ _ _ c.f64_field.ensures)
