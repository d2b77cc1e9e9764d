-- P1, P2, .. hold: THE LIST. Assumes nothing.
use mathlib.Core.List.{List, [], ◌∷◌, append-nil}
use mathlib.Core.Path.{◌≡◌, refl, sym, ap, ◌∙◌}
use Prim.Native.Nat.{ℕ}
use lib.ListN.{take, replicate}
use Rattle.bits.specs.Bits.{digits, packed_of, bits_of, through, longer, in_base, number_of, fields_of}
use Rattle.calibration.proofs.Tables.{p12}
use Rattle.numbers.proofs.Paper.{p8, p9, p10, p11, p11_refused}
use Rattle.scramble.specs.Register.{new_bit, next_register, scrambling_bits}
use Rattle.scramble.specs.Sync.{fifteen_ones}
use Rattle.scramble.specs.Wire.{complemented, scrambled, wire_of}
use Rattle.wire.specs.Parts.{information_of}
use Rattle.crc_step.specs.Remainder.{check_word_of}
use Rattle.formats.specs.Formats.{check_start}
use Rattle.sector_table.specs.Layout.{sectors, layout_of}
use Rattle.sector_check.specs.Sector.{answer_of}
use Rattle.sector_frame.specs.Written.{head_of}
use Rattle.sector_rounds.proofs.Points.{p3_word, p3_accepted, p4, p5, p6, p7}
use Rattle.demands.specs.Edges.{doc_word, Edges}

p1 : fields_of 8 4 (scrambling_bits 32 fifteen_ones) ≡ 0x00 ∷ 0x02 ∷ 0x00 ∷ 0x0c ∷ []
unfolding fields_of number_of in_base through longer scrambling_bits new_bit next_register
p1 = refl

p2 : (rest : List ℕ) → take 32 (information_of (bits_of (0x00 ∷ 0x00 ∷ 0x00 ∷ 0x00 ∷ rest))) ≡ bits_of (0x00 ∷ 0xfd ∷ 0x00 ∷ 0xf3 ∷ [])
unfolding information_of wire_of complemented scrambled new_bit next_register bits_of packed_of digits
p2 rest = refl

-- DOC: where it starts, its bits, and its data bits
pub doc_data : 18328 ≡ (layout_of 1).data_bits
unfolding layout_of sectors
doc_data = refl

pub doc_start : (layout_of 1).start ≡ 0
unfolding layout_of sectors
doc_start = refl

pub doc_bits : (layout_of 1).bits ≡ 20408
unfolding layout_of sectors
doc_bits = refl

-- from the start value that a format has
pub from_start : (format start : ℕ) (bits : List ℕ) → check_start format ≡ start → doc_word format bits ≡ check_word_of start (head_of (layout_of 1) bits)
from_start format start bits e = ap (λ (s : ℕ). check_word_of s (head_of (layout_of 1) bits)) e

p3 : (format : ℕ) → check_start format ≡ 0 → doc_word format (replicate 18328 0) ≡ 0x0000
p3 format zero = ap (doc_word format) (sym (append-nil (replicate 18328 0))) ∙ from_start format 0 _ zero ∙ p3_word 18328 doc_data

pub edges : Edges
edges =
    record {
      P1 = p1;
      P2 = p2;
      P3 = p3;
      P3Accepted = λ format zero line e. ap (λ (s : ℕ). answer_of s (layout_of 1) line) zero ∙ p3_accepted line (rw (doc_start, doc_bits) e);
      P4 = λ format zero. from_start format 0 _ zero ∙ p4 18327 doc_data;
      P5 = λ format zero. from_start format 0 _ zero ∙ p5 18326 doc_data;
      P6 = p6;
      P7 = p7;
      P8 = p8;
      P9 = p9;
      P10 = p10;
      P11 = p11;
      P11Refused = p11_refused;
      P12 = p12;
    }
