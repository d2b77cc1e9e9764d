-- EVERY OTHER SECTOR STAYS: where one sector of a line is written, the answer, filler, data and pixels of any other are
-- unchanged, and so are the bits past the line. Assumes nothing.
use mathlib.Core.Path.{◌≡◌, refl, sym, ap, ap₂, ◌∙◌}
use mathlib.Core.Bool.{Bool, true, false}
use mathlib.Core.List.{List, ◌++◌, append_assoc}
use Prim.Native.Nat.{ℕ, ◌+◌, ◌-◌, ◌≤◌, ◌<◌}
use native.Mathlib.Omega.{arith}
use lib.Dec.{ltb, eqb}
use lib.ListN.{length, take, drop, replicate, length-append, length-drop, take-append-drop}
use lib.Seq.{take-append-le, drop-append-le, drop-append-add, drop-drop, length-take-le}
use borrow.Author.Tests.{ltb-true, ltb-false}
use Rattle.refusals.specs.Refusals.{first, when}
use Rattle.formats.specs.Formats.{information_bits}
use Rattle.bits.specs.Bits.{number_of, set_bits, fields_of, stretch}
use Rattle.crc_step.specs.Remainder.{remainder_of}
use Rattle.sector_table.specs.declared.layout.Layout.{Layout}
use Rattle.sector_table.specs.Layout.{layout_of, data_at, filler_at, covered_bits, filler_bits, bytes_of, spare_of, Sound}
use Rattle.sector_check.specs.Sector.{covered_of, id_of, answer_of, filler_of, data_bits_of, data_of, pixels_of}
use Rattle.sector_table.proofs.Table.{sound, before}
use Rattle.sector_frame.specs.Written.{sector_of, sector_written}
use Rattle.sector_rounds.proofs.Back.{length_sector}

front : (a r : List ℕ) (p n : ℕ) → p + n ≤ length a → stretch (a ++ r) p n ≡ stretch a p n
unfolding stretch
front a r p n h =
    ap (take n) (drop-append-le p a r (omega arith)) ∙ take-append-le n (drop p a) r (rw length-drop (omega arith))

-- bits before what was replaced, and behind it
stretch_before : (b y r : List ℕ) (at p n : ℕ) → p + n ≤ at → at ≤ length b → stretch (take at b ++ y ++ r) p n ≡ stretch b p n
stretch_before b y r at p n h long =
    let fits : p + n ≤ length (take at b) = rw (length-take-le at b long) h in
    ap (λ (t : List ℕ). stretch t p n) (append_assoc (take at b) y r)
    ∙ front (take at b) (y ++ r) p n fits
    ∙ sym (front (take at b) (drop at b) p n fits)
    ∙ ap (λ (t : List ℕ). stretch t p n) (take-append-drop at b)

drop_behind : (b f : List ℕ) (e p : ℕ) → length f ≡ e → e ≤ p → drop p (f ++ drop e b) ≡ drop p b
drop_behind b f e p lf h =
    let r : ℕ = p - e in
    let split : p ≡ length f + r = omega (arith, lf) in
    let split' : e + r ≡ p = omega arith in
    ap (λ (k : ℕ). drop k (f ++ drop e b)) split ∙ drop-append-add f (drop e b) r ∙ drop-drop r e b ∙ ap (λ (k : ℕ). drop k b) split'

-- ---- a written line, away from the sector

module _ (start : ℕ) (l : Layout) (d b : List ℕ) (s : Sound l) (long : l.start + l.bits ≤ length b) (ld : length d ≡ l.data_bits) where
  pub length_front : length (take l.start b ++ sector_of start l d) ≡ l.start + l.bits
  length_front =
      length-append (take l.start b) (sector_of start l d) ∙ ap₂ ◌+◌ (length-take-le l.start b (omega arith)) (length_sector start l d b s long ld)

  -- BITS PAST THE LINE, and past the sector, stay
  pub past_kept : (p : ℕ) → l.start + l.bits ≤ p → drop p (sector_written start l d b) ≡ drop p b
  unfolding sector_written
  past_kept p h = drop_behind b (take l.start b ++ sector_of start l d) (l.start + l.bits) p length_front h

  kept_before : (p n : ℕ) → p + n ≤ l.start → stretch (sector_written start l d b) p n ≡ stretch b p n
  unfolding sector_written
  kept_before p n h = stretch_before b (sector_of start l d) (drop (l.start + l.bits) b) l.start p n h (omega arith)

  kept_behind : (p n : ℕ) → l.start + l.bits ≤ p → stretch (sector_written start l d b) p n ≡ stretch b p n
  unfolding stretch
  kept_behind p n h = ap (take n) (past_kept p h)

-- ---- what is read of a sector goes by its bits

same_answer : (from : ℕ) (l : Layout) (b c : List ℕ) → Sound l → ((p n : ℕ) → l.start ≤ p → p + n ≤ l.start + l.bits → stretch c p n ≡ stretch b p n)
    → answer_of from l c ≡ answer_of from l b
unfolding answer_of covered_of id_of
same_answer from l b c s h =
    ap₂ (λ (x y : List ℕ). first (when (mathlib.Core.Bool.not (eqb (remainder_of from x) 0)) 5) (when (mathlib.Core.Bool.not (eqb (number_of y) l.id)) 6))
    (h l.start (covered_bits l) (omega arith) (omega (arith, s.whole))) (h l.start l.id_bits (omega arith) (omega (arith, s.whole)))

same_filler : (l : Layout) (b c : List ℕ) → Sound l → ((p n : ℕ) → l.start ≤ p → p + n ≤ l.start + l.bits → stretch c p n ≡ stretch b p n) → filler_of l c ≡ filler_of l b
unfolding filler_of
same_filler l b c s h = ap set_bits (h (filler_at l) filler_bits (omega arith) (omega (arith, s.whole)))

same_bits : (l : Layout) (b c : List ℕ) → Sound l → ((p n : ℕ) → l.start ≤ p → p + n ≤ l.start + l.bits → stretch c p n ≡ stretch b p n) → data_bits_of l c ≡ data_bits_of l b
unfolding data_bits_of
same_bits l b c s h = h (data_at l) l.data_bits (omega arith) (omega (arith, s.whole))

-- ---- sector n is written: any other sector m

module _ (start m n : ℕ) (d b : List ℕ) (lm : 1 ≤ m) (hm : m ≤ 12) (ln : 1 ≤ n) (hn : n ≤ 12) (other : m ≡ n → ⊥)
    (long : information_bits ≤ length b) (ld : length d ≡ (layout_of n).data_bits) where
  here : Sound (layout_of n)
  here = sound n ln hn

  there : Sound (layout_of m)
  there = sound m lm hm

  room : (layout_of n).start + (layout_of n).bits ≤ length b
  room = let i = here.inside in omega arith

  apart : (p k : ℕ) → (layout_of m).start ≤ p → p + k ≤ (layout_of m).start + (layout_of m).bits → stretch (sector_written start (layout_of n) d b) p k ≡ stretch b p k
  apart p k lo hi = by (ltb m n) refl
    where
      by : (t : Bool) → ltb m n ≡ t → stretch (sector_written start (layout_of n) d b) p k ≡ stretch b p k
      by true e =
          let less : m < n = ltb-true m n e in
          let ends : (layout_of m).start + (layout_of m).bits ≤ (layout_of n).start = before m n lm less hn in
          kept_before start (layout_of n) d b here room ld p k (omega arith)
      by false e =
          let more : n ≤ m = ltb-false m n e in
          let less : n < m = omega (arith, other) in
          let ends : (layout_of n).start + (layout_of n).bits ≤ (layout_of m).start = before n m ln less hm in
          kept_behind start (layout_of n) d b here room ld p k (omega arith)

  pub other_answer : (from : ℕ) → answer_of from (layout_of m) (sector_written start (layout_of n) d b) ≡ answer_of from (layout_of m) b
  other_answer from = same_answer from (layout_of m) b (sector_written start (layout_of n) d b) there apart

  pub other_filler : filler_of (layout_of m) (sector_written start (layout_of n) d b) ≡ filler_of (layout_of m) b
  other_filler = same_filler (layout_of m) b (sector_written start (layout_of n) d b) there apart

  pub other_data : data_of (layout_of m) (sector_written start (layout_of n) d b) ≡ data_of (layout_of m) b
  unfolding data_of
  other_data = ap (λ (t : List ℕ). fields_of 8 (bytes_of (layout_of m)) (t ++ replicate (spare_of (layout_of m)) 0)) (same_bits (layout_of m) b (sector_written start (layout_of n) d b) there apart)

  pub other_pixels : pixels_of (layout_of m) (sector_written start (layout_of n) d b) ≡ pixels_of (layout_of m) b
  unfolding pixels_of
  other_pixels = ap (fields_of (layout_of m).width (layout_of m).count) (same_bits (layout_of m) b (sector_written start (layout_of n) d b) there apart)

-- all of it at once: what is read of sector n is the same of the bits b and c
pub record Alike (n : ℕ) (b c : List ℕ) : Type 0 where
  pub answer : (start : ℕ) → answer_of start (layout_of n) b ≡ answer_of start (layout_of n) c
  pub filler : filler_of (layout_of n) b ≡ filler_of (layout_of n) c
  pub bytes : data_of (layout_of n) b ≡ data_of (layout_of n) c
  pub pixels : pixels_of (layout_of n) b ≡ pixels_of (layout_of n) c

pub alike_back : {n : ℕ} {b c : List ℕ} → Alike n b c → Alike n c b
alike_back a = record { answer = λ start. sym (a.answer start); filler = sym a.filler; bytes = sym a.bytes; pixels = sym a.pixels }

pub others : (start m n : ℕ) (d b : List ℕ) → 1 ≤ m → m ≤ 12 → 1 ≤ n → n ≤ 12 → (m ≡ n → ⊥) → information_bits ≤ length b → length d ≡ (layout_of n).data_bits
    → Alike m (sector_written start (layout_of n) d b) b
others start m n d b lm hm ln hn other long ld = record {
  answer = other_answer start m n d b lm hm ln hn other long ld;
  filler = other_filler start m n d b lm hm ln hn other long ld;
  bytes = other_data start m n d b lm hm ln hn other long ld;
  pixels = other_pixels start m n d b lm hm ln hn other long ld;
}
