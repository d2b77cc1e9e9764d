-- `document_fields::integer_field` meets its contract. Assumes nothing.
use Rattle.document.proofs.Known.{from_place}
use Rattle.document_fields.proofs.Served.{none_by}
use Rattle.document_fields.proofs.Readings.{integer_read}
use Rattle.document_fields.proofs.integer_field.Goals as goal

pub returns : goal.returns
returns c =
    let served = none_by _ _ _ _ _ _ c.within-form.ensures c.in_ok-field_refusal.ensures in
    integer_read _ _ _ _ _ (from_place _ _) c.read_integer.result served c.read_integer.ensures
