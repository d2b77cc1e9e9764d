-- FORMAT 3 BESIDE P3 TO P5: its words, and 5 for the word 0000, on the rules and on the real calls. Assumes nothing.
use mathlib.Core.List.{List, ◌++◌, append_assoc}
use mathlib.Core.Path.{◌≡◌, refl, sym, ap, ap₂, subst, ◌∙◌}
use Prim.Native.Nat.{ℕ, zero, suc, ◌+◌, ◌≤◌, ◌<◌}
use native.Mathlib.Omega.{arith}
use borrow.Author.Tests.{le-ltb, ne_eqb}
use lib.Dec.{lit≤}
use lib.ListN.{length, take, drop, replicate, length-append, length-replicate}
use lib.Seq.{take_all, take-take}
use Rattle.refusals.specs.Refusals.{first, when, outside, outside_of, short_of}
use Rattle.refusals.proofs.Words.{first_none, kept_none}
use Rattle.formats.specs.Formats.{line_bytes, unknown, format_refusal, check_start}
use Rattle.formats.proofs.Which.{start_1, start_2, start_3}
use Rattle.bits.specs.Bits.{digits, bits_of, stretch}
use Rattle.bits.proofs.Digits.{length_digits}
use Rattle.bits.proofs.Stretches.{piece, stretch_append}
use Rattle.bits.proofs.Zeros.{packed_zeros}
use Rattle.division.specs.Division.{IsRemainder}
use Rattle.crc_step.specs.Remainder.{remainder_of, inverted}
use Rattle.division.proofs.Inverted.{remainder_ones}
use Rattle.sector_table.specs.Asked.{asked_of, line_refusal}
use Rattle.sector_table.specs.declared.layout.Layout.{Layout}
use Rattle.sector_table.specs.Layout.{sectors, layout_of, data_at, covered_bits, check_bits, filler_bits}
use Rattle.sector_check.specs.Sector.{covered_of, answer_of}
use Rattle.sectors.specs.Calls.{accepted_answer}
use Rattle.sector_table.proofs.Admitted.{admits}
use Rattle.sector_frame.specs.Written.{head_of, sector_of, sector_written, data_written}
use Rattle.write_refusals.specs.Refusing.{input_short, put_data_answer}
use Rattle.sector_writer.specs.Calls.{put_data_left}
use Rattle.sector_rounds.proofs.Ones.{ones_3, ones_4, ones_5, ones_refused}
use Rattle.demands.specs.Edges.{doc_word}
use Rattle.demands.specs.Ones.{Ones}
use Rattle.demands.proofs.Edges.{edges, from_start, doc_data, doc_start, doc_bits}

refused_3 : (line : List ℕ) → stretch line 0 20408 ≡ replicate 20408 0 → answer_of (check_start 3) (layout_of 1) line ≡ 5
refused_3 line e = ap (λ (s : ℕ). answer_of s (layout_of 1) line) start_3 ∙ ones_refused line (rw (doc_start, doc_bits) e)

-- ---- the first sixteen bits of a visible sector

sixteen_of : (l : Layout) (line : List ℕ) → l.id_bits ≡ 12 → 16 ≤ covered_bits l → take 16 (covered_of l line) ≡ stretch line l.start 12 ++ stretch line (data_at l) 4
unfolding covered_of stretch
sixteen_of l line twelve long =
    take-take 16 (covered_bits l) (drop l.start line) long ∙ stretch_append line l.start 12 4
    ∙ ap (λ (k : ℕ). stretch line l.start 12 ++ stretch line (l.start + k) 4) (sym twelve)

pub visible_sixteen : (v : ℕ) → v < 4 → (line : List ℕ) → take 16 (covered_of (layout_of (5 + v)) line) ≡ stretch line (layout_of (5 + v)).start 12 ++ stretch line (data_at (layout_of (5 + v))) 4
visible_sixteen zero h line = sixteen_of (layout_of 5) line (unfold layout_of sectors in refl) (unfold layout_of sectors in lit≤ tt)
visible_sixteen (suc zero) h line = sixteen_of (layout_of 6) line (unfold layout_of sectors in refl) (unfold layout_of sectors in lit≤ tt)
visible_sixteen (suc (suc zero)) h line = sixteen_of (layout_of 7) line (unfold layout_of sectors in refl) (unfold layout_of sectors in lit≤ tt)
visible_sixteen (suc (suc (suc zero))) h line = sixteen_of (layout_of 8) line (unfold layout_of sectors in refl) (unfold layout_of sectors in lit≤ tt)
visible_sixteen (suc (suc (suc (suc v)))) h line = absurd (let w : ⊥ = omega (arith, h) in w)

-- ---- `accepted`

accepts : (format answer : ℕ) (line : List ℕ) → format_refusal format ≡ 0 → line_bytes ≤ length line → answer_of (check_start format) (layout_of 1) (bits_of line) ≡ answer
    → accepted_answer format line 1 ≡ answer
unfolding accepted_answer
accepts format answer line served full e =
    first_none (line_refusal format 1 12 1 (length line)) _ (admits format 1 12 1 (length line) served (omega arith) (omega arith) full) ∙ e

served_1 : format_refusal 1 ≡ 0
unfolding format_refusal unknown when
served_1 = refl

served_2 : format_refusal 2 ≡ 0
unfolding format_refusal unknown when
served_2 = refl

served_3 : format_refusal 3 ≡ 0
unfolding format_refusal unknown when
served_3 = refl

-- ---- `put_data`

puts : (line : List ℕ) → line_bytes ≤ length line → put_data_answer 3 (length line) 1 2291 ≡ 0
unfolding put_data_answer asked_of input_short format_refusal unknown first when outside_of outside short_of layout_of sectors
puts line full = rw (le-ltb (length line) line_bytes full) refl

zero_bits : data_written (layout_of 1) (replicate 2291 0) ≡ replicate 18328 0
unfolding data_written bits_of
zero_bits =
    ap₂ take (sym doc_data) (packed_zeros 8 2291) ∙ take_all 18328 (replicate 18328 0) (omega (arith, length-replicate {A = ℕ} 18328 0))

head_length : length (head_of (layout_of 1) (replicate 18328 0)) ≡ 18344
unfolding head_of layout_of sectors
head_length = length-append (digits 16 0) (replicate 18328 0) ∙ ap₂ ◌+◌ (length_digits 16 0) (length-replicate {A = ℕ} 18328 0)

put_word : (line : List ℕ) → line_bytes ≤ length line → stretch (put_data_left 3 line 1 (replicate 2291 0)) 18344 16 ≡ digits 16 0x9063
unfolding put_data_left sector_written sector_of
put_word line full =
    let head : List ℕ = head_of (layout_of 1) (replicate 18328 0) in
    let behind : List ℕ = replicate filler_bits 0 ++ drop ((layout_of 1).start + (layout_of 1).bits) (bits_of line) in
    let zeros : List ℕ = replicate 2291 0 in
    let given : put_data_answer 3 (length line) 1 (length zeros) ≡ 0 = ap (put_data_answer 3 (length line) 1) (length-replicate {A = ℕ} 2291 0) ∙ puts line full in
    piece head (digits 16 0x9063) behind (put_data_left 3 line 1 (replicate 2291 0)) 18344 16
    (kept_none (put_data_answer 3 (length line) 1 (length zeros)) (bits_of line) _ given
    ∙ ap (λ (d : List ℕ). sector_written (check_start 3) (layout_of 1) d (bits_of line)) zero_bits
    ∙ ap (λ (k : ℕ). take k (bits_of line) ++ (head ++ (digits check_bits (doc_word 3 (replicate 18328 0)) ++ replicate filler_bits 0)) ++ drop ((layout_of 1).start + (layout_of 1).bits) (bits_of line)) doc_start
    ∙ ap (λ (w : ℕ). (head ++ (digits 16 w ++ replicate filler_bits 0)) ++ drop ((layout_of 1).start + (layout_of 1).bits) (bits_of line)) (from_start 3 0xffff _ start_3 ∙ ones_3)
    ∙ append_assoc head (digits 16 0x9063 ++ replicate filler_bits 0) _
    ∙ ap (λ (l : List ℕ). head ++ l) (append_assoc (digits 16 0x9063) (replicate filler_bits 0) _))
    head_length (length_digits 16 0x9063)

pub ones : Ones
ones =
    record {
      as_before = λ n other. rw (ne_eqb n 3 other) refl;
      was_refused = refl;
      start_1 = start_1;
      start_2 = start_2;
      start_3 = start_3;
      inverts = λ bits b. subst (λ (s : ℕ). IsRemainder (inverted bits) (remainder_of s bits)) (sym start_3) (remainder_ones bits b);
      visible = visible_sixteen;
      word = from_start 3 0xffff _ start_3 ∙ ones_3;
      word_last = from_start 3 0xffff _ start_3 ∙ ones_4;
      word_before = from_start 3 0xffff _ start_3 ∙ ones_5;
      refused = refused_3;
      accepted_1 = λ line full e. accepts 1 0 line served_1 full (edges.P3Accepted 1 start_1 (bits_of line) e);
      accepted_2 = λ line full e. accepts 2 0 line served_2 full (edges.P3Accepted 2 start_2 (bits_of line) e);
      accepted_3 = λ line full e. accepts 3 5 line served_3 full (refused_3 (bits_of line) e);
      put_3 = λ line full. (puts line full, put_word line full);
    }
