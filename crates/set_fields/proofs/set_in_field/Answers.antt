-- `set_fields::set_in_field` meets its contract. Assumes nothing.
use native.Mathlib.Omega.{arith}
use mathlib.Core.Path.{◌∙◌}
use Rattle.bits.proofs.Counts.{set_part_le}
use Rattle.set_fields.proofs.Field.{field_set}
use Rattle.set_fields.proofs.set_in_field.Goals as goal

pub returns : goal.returns
returns c =
    let s = c.args.s.now in
    let at = c.args.at in
    let w = c.args.width in
    let r = c.field in
    let law = field_set s at w r.result (omega arith) c.requires.0 r.ensures.0 r.ensures.1 in
    (c.ones.ensures.0 ∙ law, omega (arith, c.ones.ensures.0, law, set_part_le s at w c.requires.0))
