-- `document_fields::real_field` meets its contract. Assumes nothing.
use Rattle.document.proofs.Known.{from_place}
use Rattle.document_fields.proofs.Served.{none_by}
use Rattle.document_fields.proofs.Readings.{real_read}
use Rattle.document_fields.proofs.real_field.Goals as goal

pub returns : goal.returns
returns c =
    let served = none_by _ _ _ _ _ _ c.form_refusal.ensures c.in_ok-field_refusal.ensures in
    real_read _ _ _ _ _ (from_place _ _) _ c.read_real.result served c.read_real.ensures
