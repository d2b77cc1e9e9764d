-- Format 3, whose check starts from ones: what it says of the sectors of P3 to P5, that it is format 1 in all else, that demands 2 and
-- 3 cover it, and what comes of one card's recording when it is read in a format of the other. Assumes nothing.
use Rattle.std.specs.Prelude.{cond, List, [], ◌∷◌, ◌++◌, map, ◌≡◌, ℕ, ◌+◌, ◌≤◌, ◌<◌, eqb, length, get_or, take, replicate, Result, Ok}
use Rattle.bits.specs.Bits.{digits, bits_of, stretch, in_arow, Below}
use Rattle.division.specs.Division.{IsRemainder}
use Rattle.crc_step.specs.Remainder.{remainder_of, inverted}
use Rattle.formats.specs.Formats.{svissr, hirid, svissr_ones, format_of, check_start, line_bytes}
use Rattle.formats.specs.declared.Format.{Format}
use Rattle.refusals.specs.declared.Refusal.{Refusal}
use Rattle.refusals.specs.Refusals.{refuses}
use Rattle.sector_table.specs.Layout.{layout_of, data_at}
use Rattle.sector_check.specs.Sector.{covered_of, answer_of}
use Rattle.sectors.specs.Calls.{accepted_answer, answers_answer, filler_answer}
use Rattle.write_refusals.specs.Refusing.{put_data_answer}
use Rattle.sector_writer.specs.Calls.{put_data_left}
use Rattle.sector_rounds.specs.Puts.{Put, Holds, ComesBack}
use Rattle.cuts.specs.Driven.{Driven, line_in}
use Rattle.sync.specs.Put.{put_sync_answer, put_sync_left}
use Rattle.reader_bits.specs.Lines.{recorded}
use Rattle.reader_record.specs.Records.{fresh_state}
use Rattle.reader_record.specs.declared.State.{State}
use Rattle.reader.specs.Read.{read_answer, read_left}
use Rattle.reader_refusals.specs.Refusing.{largest_setting}
use Rattle.writer.specs.Wire.{write_line_answer, write_line_left}
use Rattle.blocks.specs.declared.marks.Marks.{Marks}
use Rattle.blocks.specs.declared.assembly.Assembly.{Assembly}
use Rattle.entries.specs.Entries.{revision_answer, mapping_answer, elements_answer}
use Rattle.calibration.specs.declared.Levels.{Levels}
use Rattle.calibration.specs.Tables.{level_answer, level_f64_answer}
use Rattle.demands.specs.Edges.{doc_word}
use Rattle.demands.specs.Demand3.{Demand3}
use Rattle.demands.specs.RoundTrip.{PlainLines, recording_of, Recording, ComeBack}

-- the format of a number as it was, with two formats; no call is defined by it
abbrev pub earlier_format_of : ℕ → Result Format Refusal
earlier_format_of n = cond (eqb n 1) (Ok svissr) (cond (eqb n 2) (Ok hirid) (refuses 1))

-- FORMAT 3 BESIDE P3 TO P5
pub record Ones : Type 0 where
  -- formats 1 and 2 are as they were, and so is every other number's refusal; 3 was refused
  pub as_before : (n : ℕ) → (n ≡ 3 → ⊥) → format_of n ≡ earlier_format_of n
  pub was_refused : earlier_format_of 3 ≡ refuses 1
  -- formats 1 and 2 keep zero, format 3 has sixteen ones
  pub start_1 : check_start 1 ≡ 0
  pub start_2 : check_start 2 ≡ 0
  pub start_3 : check_start 3 ≡ 0xffff
  -- so the first sixteen bits are inverted before the remainder is taken
  pub inverts : (bits : List ℕ) → Below 2 bits → IsRemainder (inverted bits) (remainder_of (check_start 3) bits)
  -- in a visible sector these are the twelve of the ID, and four of the data
  pub visible : (v : ℕ) → v < 4 → (line : List ℕ) → take 16 (covered_of (layout_of (5 + v)) line) ≡ stretch line (layout_of (5 + v)).start 12 ++ stretch line (data_at (layout_of (5 + v))) 4
  -- a DOC sector of zeros has check word 9063; only the last data bit set: 8042; only the one before: B021
  pub word : doc_word 3 (replicate 18328 0) ≡ 0x9063
  pub word_last : doc_word 3 (replicate 18327 0 ++ 1 ∷ []) ≡ 0x8042
  pub word_before : doc_word 3 (replicate 18326 0 ++ 1 ∷ 0 ∷ []) ≡ 0xb021
  -- with check word 0000 it is refused with 5, in any line
  pub refused : (line : List ℕ) → stretch line 0 20408 ≡ replicate 20408 0 → answer_of (check_start 3) (layout_of 1) line ≡ 5
  -- ON THE REAL CALLS: `accepted` says 5 of it in format 3, and 0 in formats 1 and 2 ..
  pub accepted_1 : (line : List ℕ) → line_bytes ≤ length line → stretch (bits_of line) 0 20408 ≡ replicate 20408 0 → accepted_answer 1 line 1 ≡ 0
  pub accepted_2 : (line : List ℕ) → line_bytes ≤ length line → stretch (bits_of line) 0 20408 ≡ replicate 20408 0 → accepted_answer 2 line 1 ≡ 0
  pub accepted_3 : (line : List ℕ) → line_bytes ≤ length line → stretch (bits_of line) 0 20408 ≡ replicate 20408 0 → accepted_answer 3 line 1 ≡ 5
  -- .. and what `put_data` writes behind 2,291 zero bytes in format 3 is 9063
  pub put_3 : (line : List ℕ) → line_bytes ≤ length line
      → (put_data_answer 3 (length line) 1 2291 ≡ 0) × (stretch (put_data_left 3 line 1 (replicate 2291 0)) 18344 16 ≡ digits 16 0x9063)

-- FORMAT 3 IS FORMAT 1 BUT FOR THE CHECK: a row for each call that takes a format and checks no sector. (The others take of it the
-- start value, and whether it is known.)
pub record AsFormat1 : Type 0 where
  pub put_sync : (out : List ℕ) → put_sync_answer 3 out ≡ put_sync_answer 1 out
  pub put-sync-left : (out : List ℕ) → put_sync_left 3 out ≡ put_sync_left 1 out
  pub write_line : (line out : List ℕ) → write_line_answer 3 line out ≡ write_line_answer 1 line out
  pub write-line-left : (line out : List ℕ) → write_line_left 3 line out ≡ write_line_left 1 line out
  pub read : (k : ℕ) (s : State) (piece line : List ℕ) → read_answer 3 k s piece line ≡ read_answer 1 k s piece line
  pub reader_left : (k : ℕ) (s : State) (piece line : List ℕ) → read_left 3 k s piece line ≡ read_left 1 k s piece line
  pub filler : (line : List ℕ) (n : ℕ) → filler_answer 3 line n ≡ filler_answer 1 line n
  -- calibration-2 is served, and the grid begins at 45 east
  pub revision : (a : Assembly) (n : ℕ) (block : List ℕ) → revision_answer 3 a n block ≡ revision_answer 1 a n block
  pub mapping : (m : Marks) (block : List ℕ) (i j : ℕ) → mapping_answer 3 m block i j ≡ mapping_answer 1 m block i j
  pub elements : (m : Marks) (block : List ℕ) → elements_answer 3 m block ≡ elements_answer 1 m block
  pub level : (t : Levels) (a : Assembly) (block : List ℕ) (c n : ℕ) → level_answer t 3 a block c n ≡ level_answer t 1 a block c n
  pub level_f64 : (t : Levels) (a : Assembly) (block : List ℕ) (c n : ℕ) → level_f64_answer t 3 a block c n ≡ level_f64_answer t 1 a block c n

-- DEMANDS 2 AND 3 IN FORMAT 3: instances of what is shown of every format that a number names
pub record Covered : Type 0 where
  pub named : format_of 3 ≡ Ok svissr_ones
  -- demand 3, a to d, at every setting and with any full-size buffers
  pub demand_3 : (setting : ℕ) → setting ≤ largest_setting → (lend : ℕ → List ℕ → List ℕ) → ((k : ℕ) (buf : List ℕ) → 44356 ≤ length buf → 44356 ≤ length (lend k buf))
      → (first : List ℕ) → 44356 ≤ length first → Demand3 3 setting lend first
  -- the round trip of plain lines
  pub round_trip : (setting : ℕ) → setting ≤ largest_setting → (ls : List (List ℕ)) → PlainLines ls → recorded setting (recording_of svissr_ones ls) ≡ map bits_of ls
  -- demand 2: what is put into the sectors of lines comes back, through the writer, any cut and the reader ..
  pub demand_2 : (setting : ℕ) → setting ≤ largest_setting → (lend : ℕ → List ℕ → List ℕ) → ((k : ℕ) (buf : List ℕ) → 44356 ≤ length buf → 44356 ≤ length (lend k buf))
      → (first : List ℕ) → 44356 ≤ length first → {ls : List (List ℕ)} {recording : List ℕ} → Recording 3 ls recording
      → (ps : List (List ℕ)) → in_arow ps ≡ recording → (out : List (List ℕ)) → Driven 3 setting lend 0 fresh_state first ps out → ComeBack 3 ls out
  -- .. and of one line, without them
  pub sectors : (n : ℕ) (w : Put) (line : List ℕ) → Holds 3 n w line → ComesBack 3 n w line

-- ONE CARD'S RECORDING READ IN A FORMAT OF THE OTHER: of lines that were written in the format f and are read in the format g, each is
-- handed out, bit for bit; every sector that was put into it is refused with 5; and where all twelve were, the answers are twelve 5s
pub record OtherCard (f g : ℕ) (ls out : List (List ℕ)) : Type 0 where
  pub same : out ≡ map line_in ls
  pub five : (i sector : ℕ) (w : Put) (buf : List ℕ) → Holds f sector w (get_or ls i []) → line_bytes ≤ length buf → line_in buf ≡ get_or out i [] → accepted_answer g buf sector ≡ 5
  pub twelve : (i : ℕ) (w : ℕ → Put) (buf : List ℕ) → ((sector : ℕ) → 1 ≤ sector → sector ≤ 12 → Holds f sector (w sector) (get_or ls i [])) → line_bytes ≤ length buf → line_in buf ≡ get_or out i []
      → answers_answer g buf ≡ Ok (replicate 12 5)
