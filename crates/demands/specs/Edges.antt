-- The edges that document 01 marks P, as one list, each over the rules themselves; P3 to P5 of the formats whose check starts from
-- 0. What format 3 says of their sectors stands in `specs/Ones`. Assumes nothing.
use Rattle.std.specs.Prelude.{true, false, List, [], ◌∷◌, ◌++◌, ◌≡◌, ℕ, ◌+◌, take, replicate, Ok}
use Rattle.refusals.specs.Refusals.{refuses}
use Rattle.bits.specs.Bits.{bits_of, fields_of, stretch}
use Rattle.calibration.specs.Tables.{temperatures, level_place}
use Rattle.crc_step.specs.Remainder.{check_word_of}
use Rattle.numbers.specs.Integers.{read_integer_answer}
use Rattle.numbers.specs.Decimals.{read_bcd_answer}
use Rattle.numbers.specs.Reals.{read_real_answer}
use Rattle.scramble.specs.Register.{scrambling_bits}
use Rattle.scramble.specs.Sync.{fifteen_ones}
use Rattle.wire.specs.Parts.{information_of}
use Rattle.formats.specs.Formats.{check_start}
use Rattle.sector_table.specs.Layout.{layout_of}
use Rattle.sector_check.specs.Sector.{answer_of, joined_of}
use Rattle.sector_frame.specs.Written.{head_of}

-- the check word of a DOC sector, ID and data, in a format
abbrev pub doc_word : ℕ → List ℕ → ℕ
doc_word format bits = check_word_of (check_start format) (head_of (layout_of 1) bits)

pub record Edges : Type 0 where
  -- the first four scrambling bytes after SYNC are 00 02 00 0C
  pub P1 : fields_of 8 4 (scrambling_bits 32 fifteen_ones) ≡ 0x00 ∷ 0x02 ∷ 0x00 ∷ 0x0c ∷ []
  -- a plain line opening 00 00 00 00 goes out as 00 FD 00 F3
  pub P2 : (rest : List ℕ) → take 32 (information_of (bits_of (0x00 ∷ 0x00 ∷ 0x00 ∷ 0x00 ∷ rest))) ≡ bits_of (0x00 ∷ 0xfd ∷ 0x00 ∷ 0xf3 ∷ [])
  -- a DOC sector of zeros, 18,328 data bits, has check word 0000 ..
  pub P3 : (format : ℕ) → check_start format ≡ 0 → doc_word format (replicate 18328 0) ≡ 0x0000
  -- .. and is accepted, in any line
  pub P3Accepted : (format : ℕ) → check_start format ≡ 0 → (line : List ℕ) → stretch line 0 20408 ≡ replicate 20408 0 → answer_of (check_start format) (layout_of 1) line ≡ 0
  -- only the last data bit set: 1021
  pub P4 : (format : ℕ) → check_start format ≡ 0 → doc_word format (replicate 18327 0 ++ 1 ∷ []) ≡ 0x1021
  -- only the one before: 2042
  pub P5 : (format : ℕ) → check_start format ≡ 0 → doc_word format (replicate 18326 0 ++ 1 ∷ 0 ∷ []) ≡ 0x2042
  -- upper 255, lower 3: 1023
  pub P6 : joined_of (255 ∷ []) (3 ∷ []) ≡ 1023 ∷ []
  -- upper 1, lower 0: 4
  pub P7 : joined_of (1 ∷ []) (0 ∷ []) ≡ 4 ∷ []
  -- 00 00 07 B5 as R*4.2 is 1973 with 2 places
  pub P8 : read_real_answer 4 2 (0x00 ∷ 0x00 ∷ 0x07 ∷ 0xb5 ∷ []) ≡ Ok (record { negative = false; magnitude = 1973; places = 2 })
  -- 80 C8 10 42 as R*4.5 is minus 13111362 with 5 places
  pub P9 : read_real_answer 4 5 (0x80 ∷ 0xc8 ∷ 0x10 ∷ 0x42 ∷ []) ≡ Ok (record { negative = true; magnitude = 13111362; places = 5 })
  -- 2D 9C as I*2 is 11676
  pub P10 : read_integer_answer 2 (0x2d ∷ 0x9c ∷ []) ≡ Ok 11676
  -- 97 65 as BCD is 9765; 9A 65 is refusal 7
  pub P11 : read_bcd_answer 2 (0x97 ∷ 0x65 ∷ []) ≡ Ok 9765
  pub P11Refused : read_bcd_answer 2 (0x9a ∷ 0x65 ∷ []) ≡ refuses 7
  -- IR1 level 1,023 is at bytes 5373-5376
  pub P12 : (level_place temperatures 1 1023 ≡ 5373) × (level_place temperatures 1 1023 + 3 ≡ 5376)
