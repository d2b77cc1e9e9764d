-- P3 to P7 of document 01, of the definitions themselves and on the real layout; P3 to P5 where the check starts from 0. Assumes
-- nothing.
use mathlib.Core.Path.{◌≡◌, refl, sym, ap, ◌∙◌}
use mathlib.Core.List.{List, [], ◌∷◌, ◌++◌, append_assoc, append-nil}
use Prim.Native.Nat.{ℕ, zero, suc, ◌+◌, ◌≤◌}
use native.Mathlib.Nat.{le_of_suc-le-suc, not-suc-le-zero}
use native.Mathlib.Omega.{arith}
use lib.ListN.{take, drop, replicate, replicate-append-replicate}
use lib.Seq.{take-take}
use Rattle.bits.specs.Bits.{digits, through, number_of, stretch}
use Rattle.bits.proofs.Zeros.{number_zeros, digits_zeros}
use Rattle.crc_step.specs.Remainder.{next, preset, remainder_of, check_word_of}
use Rattle.division.proofs.Zeros.{remainder_zeros, word_zeros}
use Rattle.sector_table.specs.declared.layout.Layout.{Layout}
use Rattle.sector_table.specs.Layout.{sectors, layout_of, covered_bits, Sound}
use Rattle.sector_check.specs.Sector.{covered_of, id_of, answer_of, joined_of}
use Rattle.sector_check.proofs.Answers.{answer_none}
use Rattle.sector_table.proofs.Table.{sound}
use Rattle.sector_frame.specs.Written.{head_of}

-- ---- a DOC sector of zeros, but for its last data bits

pub doc_head : (k : ℕ) (ys : List ℕ) → head_of (layout_of 1) (replicate k 0 ++ ys) ≡ replicate ((layout_of 1).id_bits + k) 0 ++ ys
unfolding head_of
doc_head k ys =
    let w : ℕ = (layout_of 1).id_bits in
    ap (λ (t : List ℕ). t ++ (replicate k 0 ++ ys)) (ap (digits w) doc_id ∙ digits_zeros w)
    ∙ sym (append_assoc (replicate w 0) (replicate k 0) ys)
    ∙ ap (λ (t : List ℕ). t ++ ys) (replicate-append-replicate w k 0)
  where
    doc_id : (layout_of 1).id ≡ 0
    doc_id = unfold layout_of sectors in refl

doc_word_is : (k : ℕ) (ys : List ℕ) → check_word_of 0 (head_of (layout_of 1) (replicate k 0 ++ ys)) ≡ check_word_of 0 ys
doc_word_is k ys = ap (check_word_of 0) (doc_head k ys) ∙ word_zeros ((layout_of 1).id_bits + k) ys

-- P3: its check word is 0000
pub p3_word : (k : ℕ) → k ≡ (layout_of 1).data_bits → check_word_of 0 (head_of (layout_of 1) (replicate k 0 ++ [])) ≡ 0
unfolding check_word_of remainder_of next preset through
p3_word k e = doc_word_is k []

-- P4: only the last data bit set
pub p4 : (k : ℕ) → k + 1 ≡ (layout_of 1).data_bits → check_word_of 0 (head_of (layout_of 1) (replicate k 0 ++ (1 ∷ []))) ≡ 0x1021
unfolding check_word_of remainder_of next preset through
p4 k e = doc_word_is k (1 ∷ [])

-- P5: only the one before
pub p5 : (k : ℕ) → k + 2 ≡ (layout_of 1).data_bits → check_word_of 0 (head_of (layout_of 1) (replicate k 0 ++ (1 ∷ 0 ∷ []))) ≡ 0x2042
unfolding check_word_of remainder_of next preset through
p5 k e = doc_word_is k (1 ∷ 0 ∷ [])

-- ---- P3: a line whose DOC sector is all zeros is accepted in sector 1

take_replicate : (k n a : ℕ) → k ≤ n → take k (replicate n a) ≡ replicate k a
take_replicate zero n a h = refl
take_replicate (suc k) zero a h = absurd (not-suc-le-zero h)
take_replicate (suc k) (suc n) a h = ap (λ (t : List ℕ). a ∷ t) (take_replicate k n a (le_of_suc-le-suc h))

pub first_bits : (b : List ℕ) (at k n : ℕ) → k ≤ n → stretch b at n ≡ replicate n 0 → stretch b at k ≡ replicate k 0
unfolding stretch
first_bits b at k n h e = sym (take-take k n (drop at b) h) ∙ ap (take k) e ∙ take_replicate k n 0 h

pub zeros_leave : (n : ℕ) → remainder_of 0 (replicate n 0) ≡ 0
unfolding remainder_of preset through
zeros_leave n = ap (remainder_of 0) (sym (append-nil (replicate n 0))) ∙ remainder_zeros n []

pub p3_accepted : (b : List ℕ) → stretch b (layout_of 1).start (layout_of 1).bits ≡ replicate (layout_of 1).bits 0 → answer_of 0 (layout_of 1) b ≡ 0
unfolding covered_of id_of
p3_accepted b e =
    let l : Layout = layout_of 1 in
    let s : Sound l = sound 1 (omega arith) (omega arith) in
    sym (answer_none 0 l b
    (ap (remainder_of 0) (first_bits b l.start (covered_bits l) l.bits (omega (arith, s.whole)) e) ∙ zeros_leave (covered_bits l))
    (ap number_of (first_bits b l.start l.id_bits l.bits (omega (arith, s.whole)) e) ∙ number_zeros l.id_bits ∙ own))
  where
    own : 0 ≡ (layout_of 1).id
    own = unfold layout_of sectors in refl

-- ---- P6: upper 255, lower 3. P7: upper 1, lower 0

pub p6 : joined_of (255 ∷ []) (3 ∷ []) ≡ 1023 ∷ []
unfolding joined_of
p6 = refl

pub p7 : joined_of (1 ∷ []) (0 ∷ []) ≡ 4 ∷ []
unfolding joined_of
p7 = refl
