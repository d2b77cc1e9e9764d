-- WHAT WAS WRITTEN IS READ BACK: a written sector is accepted, has no filler bit set, and gives back its data bits. All
-- is said over the sector, the start value and the data bits. Assumes nothing.
use mathlib.Core.Path.{◌≡◌, sym, ap, ap₂, ◌∙◌}
use mathlib.Core.List.{List, ◌++◌, append_assoc}
use Prim.Native.Nat.{ℕ, ◌+◌, ◌≤◌}
use native.Mathlib.Nat.{mod-eq_of_lt}
use native.Mathlib.Omega.{arith}
use lib.ListN.{length, take, drop, replicate, length-append, length-replicate}
use lib.Seq.{length-take-le}
use Rattle.bits.specs.Bits.{digits, number_of, set_bits}
use Rattle.bits.proofs.Digits.{length_digits, number_digits}
use Rattle.bits.proofs.Zeros.{set_zeros}
use Rattle.crc_step.specs.Remainder.{remainder_of, check_word_of}
use Rattle.division.proofs.Word.{checked}
use Rattle.sector_table.specs.declared.layout.Layout.{Layout}
use Rattle.sector_table.specs.Layout.{data_at, filler_at, covered_bits, check_bits, filler_bits, Sound}
use Rattle.sector_check.specs.Sector.{covered_of, id_of, answer_of, filler_of, data_bits_of}
use Rattle.sector_check.proofs.Answers.{answer_none}
use Rattle.sector_frame.specs.Written.{head_of, sector_of, sector_written}
use Rattle.bits.proofs.Stretches.{piece}

flat : (a h w z e : List ℕ) → a ++ (h ++ (w ++ z)) ++ e ≡ a ++ ((h ++ w) ++ (z ++ e))
flat a h w z e = simp append_assoc

filler_last : (a h w z e : List ℕ) → a ++ (h ++ (w ++ z)) ++ e ≡ ((a ++ h) ++ w) ++ (z ++ e)
filler_last a h w z e = simp append_assoc

data_second : (a i d w z e : List ℕ) → a ++ ((i ++ d) ++ (w ++ z)) ++ e ≡ (a ++ i) ++ (d ++ ((w ++ z) ++ e))
data_second a i d w z e = simp append_assoc

id_first : (a i d w z e : List ℕ) → a ++ ((i ++ d) ++ (w ++ z)) ++ e ≡ a ++ (i ++ (d ++ ((w ++ z) ++ e)))
id_first a i d w z e = simp append_assoc

module _ (start : ℕ) (l : Layout) (d b : List ℕ) (s : Sound l) (long : l.start + l.bits ≤ length b) (ld : length d ≡ l.data_bits) where
  before : List ℕ
  before = take l.start b

  behind : List ℕ
  behind = drop (l.start + l.bits) b

  id : List ℕ
  id = digits l.id_bits l.id

  word : List ℕ
  word = digits check_bits (check_word_of start (head_of l d))

  length_before : length before ≡ l.start
  unfolding before
  length_before = length-take-le l.start b (omega arith)

  length_head : length (head_of l d) ≡ l.id_bits + l.data_bits
  unfolding head_of
  length_head = length-append (digits l.id_bits l.id) d ∙ ap₂ ◌+◌ (length_digits l.id_bits l.id) ld

  length_word : length word ≡ check_bits
  unfolding word
  length_word = length_digits check_bits (check_word_of start (head_of l d))

  pub length_sector : length (sector_of start l d) ≡ l.bits
  unfolding sector_of word
  length_sector =
      length-append (head_of l d) (word ++ replicate filler_bits 0)
      ∙ omega (arith, length_head, length-append word (replicate filler_bits 0), length_word, length-replicate {A = ℕ} filler_bits 0, s.whole)

  pub covered_back : covered_of l (sector_written start l d b) ≡ head_of l d ++ digits check_bits (check_word_of start (head_of l d))
  unfolding covered_of sector_written sector_of before behind word
  covered_back =
      piece before (head_of l d ++ word) (replicate filler_bits 0 ++ behind) (sector_written start l d b) l.start (covered_bits l)
      (flat before (head_of l d) word (replicate filler_bits 0) behind) length_before
      (length-append (head_of l d) word ∙ ap₂ ◌+◌ length_head length_word)

  pub id_back : id_of l (sector_written start l d b) ≡ l.id
  unfolding id_of sector_written sector_of head_of before behind id word
  id_back =
      ap number_of (piece before id (d ++ ((word ++ replicate filler_bits 0) ++ behind)) (sector_written start l d b) l.start l.id_bits
      (id_first before id d word (replicate filler_bits 0) behind) length_before (length_digits l.id_bits l.id))
      ∙ number_digits l.id_bits l.id ∙ mod-eq_of_lt s.id_fits

  -- ACCEPTED
  pub written_accepted : answer_of start l (sector_written start l d b) ≡ 0
  written_accepted = sym (answer_none start l (sector_written start l d b) (ap (remainder_of start) covered_back ∙ checked start (head_of l d)) id_back)

  -- NO FILLER BIT SET
  pub written_filler : filler_of l (sector_written start l d b) ≡ 0
  unfolding filler_of sector_written sector_of before behind word
  written_filler =
      ap set_bits (piece ((before ++ head_of l d) ++ word) (replicate filler_bits 0) behind (sector_written start l d b) (filler_at l) filler_bits
      (filler_last before (head_of l d) word (replicate filler_bits 0) behind)
      (omega (arith, length-append (before ++ head_of l d) word, length-append before (head_of l d), length_before, length_head, length_word))
      (length-replicate {A = ℕ} filler_bits 0))
      ∙ set_zeros filler_bits

  -- THE DATA BITS
  pub written_bits : data_bits_of l (sector_written start l d b) ≡ d
  unfolding data_bits_of sector_written sector_of head_of before behind id word
  written_bits =
      piece (before ++ id) d ((word ++ replicate filler_bits 0) ++ behind) (sector_written start l d b) (data_at l) l.data_bits
      (data_second before id d word (replicate filler_bits 0) behind)
      (length-append before id ∙ ap₂ ◌+◌ length_before (length_digits l.id_bits l.id)) ld
