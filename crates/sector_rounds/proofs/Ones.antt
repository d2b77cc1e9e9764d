-- THE SECTORS OF P3 TO P5 WHERE THE CHECK STARTS FROM ONES: a DOC sector of zeros has the check word 9063, with its last data bit set
-- 8042, with the one before set B021; and with the word 0000 it is refused with 5. Assumes nothing.
use mathlib.Core.Path.{◌≡◌, refl, sym, ap, ◌∙◌}
use mathlib.Core.List.{List, [], ◌∷◌, ◌++◌, append_assoc}
use Prim.Native.Nat.{ℕ, zero, suc, ◌+◌}
use native.Mathlib.Omega.{arith}
use lib.Dec.{lit<}
use lib.ListN.{length, replicate, replicate-append-replicate, length-replicate}
use Rattle.bits.specs.Bits.{digits, through, stretch, Below}
use Rattle.bits.proofs.Below.{below_append, below_replicate}
use Rattle.bits.proofs.Through.{through_append}
use Rattle.bits.proofs.Zeros.{digits_zeros}
use Rattle.crc_step.specs.Remainder.{next, remainder_of, check_word_of}
use Rattle.division.proofs.Starts.{opened}
use Rattle.sector_table.specs.declared.layout.Layout.{Layout}
use Rattle.sector_table.specs.Layout.{sectors, layout_of, covered_bits, Sound}
use Rattle.sector_check.specs.Sector.{covered_of, answer_of}
use Rattle.sector_table.proofs.Table.{sound}
use Rattle.sector_frame.specs.Written.{head_of}
use Rattle.sector_rounds.proofs.Points.{doc_head, first_bits, p3_accepted}
use Rattle.sector_rounds.proofs.Cards.{other_start}

-- ---- zeros behind a remainder, as antt computes them without piling up calls: it is read before the next step

run : ℕ → ℕ → ℕ
run zero r = r
run (suc n) r = elim (next r 0) [ zero ↦ run n zero | suc m ↦ run n (suc m) ]

run_is : (n r : ℕ) → run n r ≡ through next r (replicate n 0)
unfolding run through
run_is zero r = refl
run_is (suc n) r = go (next r 0) (run_is n)
  where
    go : (x : ℕ) → ((y : ℕ) → run n y ≡ through next y (replicate n 0)) → elim x [ zero ↦ run n zero | suc m ↦ run n (suc m) ] ≡ through next x (replicate n 0)
    go zero ih = ih zero
    go (suc x) ih = ih (suc x)

-- sixteen ones, and all data bits but the last two
all_but_two : run 18326 0xffff ≡ 0xe69d
unfolding run next
all_but_two = refl

-- ---- the words

doc_ones : (ys : List ℕ) → Below 2 ys → check_word_of 0xffff (head_of (layout_of 1) (replicate 18326 0 ++ ys)) ≡ through next 0xe69d (ys ++ replicate 16 0)
unfolding check_word_of
doc_ones ys b =
    let rest : List ℕ = ys ++ replicate 16 0 in
    let below : Below 2 (replicate 18326 0 ++ rest) = below_append 2 (replicate 18326 0) rest (below_replicate 2 18326 0 (lit< tt)) (below_append 2 ys (replicate 16 0) b (below_replicate 2 16 0 (lit< tt))) in
    let front : head_of (layout_of 1) (replicate 18326 0 ++ ys) ++ replicate 16 0 ≡ digits 16 0 ++ (replicate 18326 0 ++ rest) =
    ap (λ (l : List ℕ). l ++ replicate 16 0) (doc_head 18326 ys ∙ ap (λ (n : ℕ). replicate (n + 18326) 0 ++ ys) sixteen)
    ∙ ap (λ (l : List ℕ). (l ++ ys) ++ replicate 16 0) (sym (replicate-append-replicate 16 18326 0))
    ∙ append_assoc (replicate 16 0 ++ replicate 18326 0) ys (replicate 16 0)
    ∙ append_assoc (replicate 16 0) (replicate 18326 0) rest
    ∙ ap (λ (l : List ℕ). l ++ (replicate 18326 0 ++ rest)) (sym (digits_zeros 16)) in
    ap (remainder_of 0xffff) front
    ∙ opened 0xffff 0 (replicate 18326 0 ++ rest) (lit< tt) below
    ∙ through_append next 0xffff (replicate 18326 0) rest
    ∙ ap (λ (r : ℕ). through next r rest) (sym (run_is 18326 0xffff) ∙ all_but_two)
  where
    sixteen : (layout_of 1).id_bits ≡ 16
    sixteen = unfold layout_of sectors in refl

-- P3's sector: 9063
pub ones_3 : check_word_of 0xffff (head_of (layout_of 1) (replicate 18328 0)) ≡ 0x9063
unfolding Below through next
ones_3 = ap (λ (l : List ℕ). check_word_of 0xffff (head_of (layout_of 1) l)) (sym (replicate-append-replicate 18326 2 0)) ∙ doc_ones (0 ∷ 0 ∷ []) (lit< tt, (lit< tt, tt))

-- P4's: 8042
pub ones_4 : check_word_of 0xffff (head_of (layout_of 1) (replicate 18327 0 ++ (1 ∷ []))) ≡ 0x8042
unfolding Below through next
ones_4 =
    ap (λ (l : List ℕ). check_word_of 0xffff (head_of (layout_of 1) (l ++ (1 ∷ [])))) (sym (replicate-append-replicate 18326 1 0))
    ∙ ap (λ (l : List ℕ). check_word_of 0xffff (head_of (layout_of 1) l)) (append_assoc (replicate 18326 0) (0 ∷ []) (1 ∷ []))
    ∙ doc_ones (0 ∷ 1 ∷ []) (lit< tt, (lit< tt, tt))

-- P5's: B021
pub ones_5 : check_word_of 0xffff (head_of (layout_of 1) (replicate 18326 0 ++ (1 ∷ 0 ∷ []))) ≡ 0xb021
unfolding Below through next
ones_5 = doc_ones (1 ∷ 0 ∷ []) (lit< tt, (lit< tt, tt))

-- ---- all zeros, the check word too: what is accepted from 0 is 5 from ones

pub ones_refused : (b : List ℕ) → stretch b (layout_of 1).start (layout_of 1).bits ≡ replicate (layout_of 1).bits 0 → answer_of 0xffff (layout_of 1) b ≡ 5
unfolding covered_of
ones_refused b e =
    let l : Layout = layout_of 1 in
    let s : Sound l = sound 1 (omega arith) (omega arith) in
    let zeros : stretch b l.start (covered_bits l) ≡ replicate (covered_bits l) 0 = first_bits b l.start (covered_bits l) l.bits (omega (arith, s.whole)) e in
    other_start 0 0xffff (λ (z : ◌≡◌ {A = ℕ} 0 0xffff). let w : ⊥ = omega arith in w) l b
    (omega (arith, ap length zeros ∙ length-replicate (covered_bits l) 0))
    (rw zeros (below_replicate 2 (covered_bits l) 0 (lit< tt)))
    (λ five. let z : ◌≡◌ {A = ℕ} 0 5 = sym (p3_accepted b e) ∙ five in let w : ⊥ = omega arith in w)
