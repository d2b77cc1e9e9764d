-- `document_fields::bcd_field` meets its contract. Assumes nothing.
use Rattle.document.proofs.Known.{from_place}
use Rattle.document_fields.proofs.Served.{none_by}
use Rattle.document_fields.proofs.Readings.{bcd_read}
use Rattle.document_fields.proofs.bcd_field.Goals as goal

pub returns : goal.returns
returns c =
    let served = none_by _ _ _ _ _ _ c.within-form.ensures c.in_ok-field_refusal.ensures in
    bcd_read _ _ _ _ _ (from_place _ _) c.read_bcd.result served c.read_bcd.ensures
