-- 14 EXACTLY: of a line that carries a segment (nothing above 14 refuses it), where some segment is stored and the block goes by
-- another number in the line than in the assembly; be the line's segment stored or not, and its bytes equal or not. Assumes
-- nothing.
use mathlib.Core.List.{List, [], ◌∷◌}
use mathlib.Core.Logic.{◌↔◌}
use mathlib.Core.Path.{◌≡◌, refl, sym, ◌∙◌}
use Prim.Native.Nat.{ℕ}
use native.Mathlib.Omega.{arith}
use lib.ListN.{length}
use Rattle.refusals.proofs.Exactly.{exactly}
use Rattle.refusals.proofs.Words.{kept_none}
use Rattle.bits.specs.Bits.{stretch}
use Rattle.std.specs.Prelude.{Result}
use Rattle.refusals.specs.declared.Refusal.{Refusal}
use Rattle.refusals.specs.Refusals.{answer_number, answer_value}
use Rattle.sector_table.specs.Place.{doc_part, doc_from}
use Rattle.document_fields.specs.Fields.{IntegerFieldOk}
use Rattle.blocks.specs.declared.assembly.Assembly.{Assembly}
use Rattle.blocks.specs.Record.{revision_of}
use Rattle.revisions.specs.Carried.{revisions_in, foreign}
use Rattle.revisions.proofs.Ways.{foreign_when}
use Rattle.segments.specs.Assembly.{carried_refusal, add_segment_refusal}
use Rattle.demands.specs.Orders.{carried_tests, copy_test}
use Rattle.demands.proofs.Orders.{orders, carried_when}

-- THE NUMBERS OF A LINE are those that `integer_field` reads, as I*2 at bytes 28 and 30
pub by_fields : (f : ℕ) (line : List ℕ) (r s : Result ℕ Refusal) → IntegerFieldOk f line 28 2 r → IntegerFieldOk f line 30 2 s → answer_number r ≡ 0 → answer_number s ≡ 0
    → (answer_value 0 r ≡ (revisions_in line).calibration) × (answer_value 0 s ≡ (revisions_in line).manam)
unfolding revisions_in doc_part doc_from stretch
by_fields f line r s p q z w = (p.1 ∙ kept_none _ _ _ (sym p.0 ∙ z), q.1 ∙ kept_none _ _ _ (sym q.0 ∙ w))

pub exactly_14 : (f : ℕ) (a : Assembly) (line : List ℕ) (n : ℕ) (block : List ℕ)
    → (add_segment_refusal f a line n block ≡ 14)
    ↔ ((carried_refusal f a.marks line n (length block) ≡ 0) × (a.marks.segments ≡ 0 → ⊥) × (revision_of n a.revisions ≡ revision_of n (revisions_in line) → ⊥))
exactly_14 f a line n block =
    let when-14 = exactly 14 (carried_tests f a.marks line n (length block)) (copy_test n a.marks line block ∷ []) (foreign n a (revisions_in line)) (λ z. omega arith) refl refl in
    let tests = (orders.add_segment f a line n block).given in
    let carried = carried_when f a.marks line n (length block) in
    let told = foreign_when n a (revisions_in line) in (
      λ e. let h = when-14.0 (sym tests ∙ e) in let t = told.0 h.1 in (carried ∙ h.0, t.0, t.1),
      λ h. tests ∙ when-14.1 (sym carried ∙ h.0, told.1 (h.1, h.2)),
    )
