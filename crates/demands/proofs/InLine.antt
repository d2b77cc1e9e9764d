-- What a buffer says of a sector is what the line in its first 44,356 bytes says: bytes past the line have no part in it.
-- Assumes nothing.
use mathlib.Core.List.{List, [], ◌∷◌}
use mathlib.Core.Path.{◌≡◌, refl, sym, ap, ◌∙◌}
use Prim.Native.Nat.{ℕ, zero, suc, ◌+◌, ◌*◌, ◌≤◌, ◌<◌}
use native.Mathlib.Nat.{suc_inj, le_of_suc-le-suc, not-suc-le-zero, suc-ne-zero}
use native.Mathlib.Omega.{arith}
use lib.ListN.{length, get_or, take, drop, length-drop, take-append-drop}
use lib.Seq.{length-take-le, take-append-le, drop-append-le}
use Rattle.bits.specs.Bits.{bits_of, set_bits, stretch}
use Rattle.bits.proofs.Bytes.{length_bits, bits_take}
use Rattle.formats.specs.Formats.{information_bits, line_bytes}
use Rattle.cuts.specs.Driven.{line_in}
use Rattle.sector_table.specs.declared.layout.Layout.{Layout}
use Rattle.sector_table.specs.Layout.{layout_of, Sound, data_at, filler_at, covered_bits, filler_bits}
use Rattle.sector_table.proofs.Table.{sound}
use Rattle.sector_rounds.proofs.Others.{Alike}
use Rattle.sector_check.specs.Sector.{covered_of, id_of, answer_of, filler_of, data_bits_of, data_of, pixels_of, joined_of}

-- ---- a stretch inside the first n bits

stretch_first : (b : List ℕ) (n at k : ℕ) → n ≤ length b → at + k ≤ n → stretch b at k ≡ stretch (take n b) at k
unfolding stretch
stretch_first b n at k h inside =
    let l : length (take n b) ≡ n = length-take-le n b h in
    ap (λ (x : List ℕ). take k (drop at x)) (sym (take-append-drop n b))
    ∙ ap (take k) (drop-append-le at (take n b) (drop n b) (omega arith))
    ∙ take-append-le k (drop at (take n b)) (drop n b) (omega (arith, length-drop at (take n b)))

module _ (buf : List ℕ) (long : line_bytes ≤ length buf) where
  line_first : take information_bits (bits_of buf) ≡ line_in buf
  unfolding line_in
  line_first = bits_take buf line_bytes

  enough_bits : information_bits ≤ length (bits_of buf)
  enough_bits = omega (arith, length_bits buf)

  in_line : (at k : ℕ) → at + k ≤ information_bits → stretch (bits_of buf) at k ≡ stretch (line_in buf) at k
  in_line at k h = stretch_first (bits_of buf) information_bits at k enough_bits h ∙ ap (λ (x : List ℕ). stretch x at k) line_first

  module _ (l : Layout) (s : Sound l) where
    line_bits : data_bits_of l (bits_of buf) ≡ data_bits_of l (line_in buf)
    unfolding data_bits_of
    line_bits = in_line (data_at l) l.data_bits (omega (arith, s.whole, s.inside))

    pub line_answer : (start : ℕ) → answer_of start l (bits_of buf) ≡ answer_of start l (line_in buf)
    unfolding answer_of covered_of id_of
    line_answer start =
        let covered = in_line l.start (covered_bits l) (omega (arith, s.whole, s.inside)) in
        let id = in_line l.start l.id_bits (omega (arith, s.whole, s.inside)) in
        rw (covered, id)

    pub line_filler : filler_of l (bits_of buf) ≡ filler_of l (line_in buf)
    unfolding filler_of
    line_filler = ap set_bits (in_line (filler_at l) filler_bits (omega (arith, s.whole, s.inside)))

    pub line_data : data_of l (bits_of buf) ≡ data_of l (line_in buf)
    unfolding data_of
    line_data = rw line_bits

    pub line_pixels : pixels_of l (bits_of buf) ≡ pixels_of l (line_in buf)
    unfolding pixels_of
    line_pixels = rw line_bits

  -- the same of sector n, all at once
  pub line_alike : (n : ℕ) → 1 ≤ n → n ≤ 12 → Alike n (bits_of buf) (line_in buf)
  line_alike n low high =
      let s = sound n low high in
      record { answer = line_answer (layout_of n) s; filler = line_filler (layout_of n) s; bytes = line_data (layout_of n) s; pixels = line_pixels (layout_of n) s }

-- each joined pixel: four times the upper part plus the lower part
pub joined_at : (xs ys : List ℕ) (i : ℕ) → length xs ≡ length ys → i < length xs → get_or (joined_of xs ys) i 0 ≡ 4 * get_or xs i 0 + get_or ys i 0
unfolding joined_of
joined_at [] ys i l h = absurd (not-suc-le-zero h)
joined_at (x ∷ xs) [] i l h = absurd (suc-ne-zero (length xs) l)
joined_at (x ∷ xs) (y ∷ ys) zero l h = refl
joined_at (x ∷ xs) (y ∷ ys) (suc i) l h = joined_at xs ys i (suc_inj l) (le_of_suc-le-suc h)
