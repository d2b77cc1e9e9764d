-- ROUND TRIPS: data bytes and pixels that were written are given back, and what the calls that read say of every other
-- sector is unchanged. Assumes nothing.
use mathlib.Core.Path.{◌≡◌, sym, ap, ap₂, ◌∙◌}
use mathlib.Core.List.{List, [], ◌∷◌, ◌++◌, append_assoc, append-nil}
use Prim.Native.Nat.{ℕ, ◌+◌, ◌-◌, ◌*◌, ◌/◌, ◌^◌, ◌≤◌, ◌<◌}
use native.Mathlib.Nat.{div-add-mod', add-zero, lt_of_le_of_lt}
use native.Mathlib.Omega.{arith}
use lib.ListN.{length, get_or, take, replicate, length-append}
use lib.Seq.{length-take-le}
use lib.Pow.{pow_pos}
use lib.Dec.{lit<}
use Rattle.bits.specs.Bits.{digits, packed_of, bits_of, fields_of, Below}
use Rattle.bits.proofs.Below.{below_nil, below_cons, below_at, below_take, below_append}
use Rattle.bits.proofs.Digits.{digits_cat}
use Rattle.bits.proofs.Packed.{packed_snoc}
use Rattle.bits.proofs.Fields.{fields_packed}
use Rattle.bits.proofs.Zeros.{digits_zeros}
use Rattle.sector_table.specs.declared.layout.Layout.{Layout}
use Rattle.sector_table.specs.Layout.{bytes_of, spare_of, Sound}
use Rattle.sector_check.specs.Sector.{data_of, pixels_of}
use Rattle.sector_frame.specs.Written.{sector_written, data_written, pixels_written}
use Rattle.sector_frame.proofs.Frames.{bytes_written, length_data_written, length_pixels_written}
use Rattle.sector_rounds.specs.Cleared.{cleared_of}
use Rattle.sector_rounds.proofs.Back.{written_bits}

-- the high bits of a number, and zeros below them
cleared_bits : (w spare x : ℕ) → w + spare ≡ 8 → digits w (x / 2 ^ spare) ++ replicate spare 0 ≡ digits 8 (x / 2 ^ spare * 2 ^ spare)
cleared_bits w spare x e =
    ap (λ (z : List ℕ). digits w (x / 2 ^ spare) ++ z) (sym (digits_zeros spare))
    ∙ sym (digits_cat w spare (x / 2 ^ spare) 0 (pow_pos spare))
    ∙ ap₂ digits e (add-zero (x / 2 ^ spare * 2 ^ spare))

cleared_le : (x m : ℕ) → x / m * m ≤ x
cleared_le x m = omega (arith, div-add-mod' x m)

-- data bits with zeros behind them are bytes, the spare bits of the last cleared
cleared : (l : Layout) (bytes : List ℕ) → Sound l → bytes_of l ≤ length bytes → Below (2 ^ 8) bytes
    → fields_of 8 (bytes_of l) (data_written l bytes ++ replicate (spare_of l) 0) ≡ cleared_of l bytes
unfolding data_written cleared_of
cleared l bytes s room small =
    let k : ℕ = bytes_of l - 1 in
    let spare : ℕ = spare_of l in
    let w : ℕ = 8 - spare in
    let x : ℕ = get_or bytes k 0 in
    let y : ℕ = x / 2 ^ spare * 2 ^ spare in
    let ps : List ℕ = take k bytes ++ (y ∷ []) in
    let count : bytes_of l ≡ k + 1 = omega (arith, s.some) in
    let both : w + spare ≡ 8 = omega (arith, count) in
    let all : l.data_bits ≡ k * 8 + w = omega (arith, count) in
    let fits : k < length bytes = omega (arith, count) in
    let lps : length ps ≡ bytes_of l = length-append (take k bytes) (y ∷ []) ∙ ap (λ (n : ℕ). n + 1) (length-take-le k bytes (omega arith)) ∙ sym count in
    let ylt : y < 2 ^ 8 = lt_of_le_of_lt (cleared_le x (2 ^ spare)) (below_at (2 ^ 8) bytes (lit< tt) small k) in
    let fit : Below (2 ^ 8) ps = below_append (2 ^ 8) (take k bytes) (y ∷ []) (below_take (2 ^ 8) k bytes small) (below_cons (2 ^ 8) y [] ylt (below_nil (2 ^ 8))) in
    let bits : take l.data_bits (bits_of bytes) ++ replicate spare 0 ≡ packed_of 8 ps ++ [] =
    ap (λ (n : ℕ). take n (bits_of bytes) ++ replicate spare 0) all
    ∙ ap (λ (t : List ℕ). t ++ replicate spare 0) (sym (bytes_written bytes k w spare fits both))
    ∙ append_assoc (packed_of 8 (take k bytes)) (digits w (x / 2 ^ spare)) (replicate spare 0)
    ∙ ap (λ (t : List ℕ). packed_of 8 (take k bytes) ++ t) (cleared_bits w spare x both)
    ∙ sym (packed_snoc 8 (take k bytes) y) ∙ sym (append-nil (packed_of 8 ps)) in
    ap₂ fields_of_8 (sym lps) bits ∙ fields_packed 8 ps [] fit
  where
    fields_of_8 : ℕ → List ℕ → List ℕ
    fields_of_8 n t = fields_of 8 n t

module _ (start : ℕ) (l : Layout) (b : List ℕ) (s : Sound l) (long : l.start + l.bits ≤ length b) where
  -- DATA: given back, the spare bits cleared
  pub data_back : (bytes : List ℕ) → bytes_of l ≤ length bytes → Below (2 ^ 8) bytes → data_of l (sector_written start l (data_written l bytes) b) ≡ cleared_of l bytes
  unfolding data_of
  data_back bytes room small =
      ap (λ (t : List ℕ). fields_of 8 (bytes_of l) (t ++ replicate (spare_of l) 0)) (written_bits start l (data_written l bytes) b s long (length_data_written l bytes room))
      ∙ cleared l bytes s room small

  -- PIXELS: given back, at every width
  pub pixels_back : (ps : List ℕ) → l.count ≤ length ps → Below (2 ^ l.width) (take l.count ps) → pixels_of l (sector_written start l (pixels_written l ps) b) ≡ take l.count ps
  unfolding pixels_of pixels_written
  pixels_back ps room small =
      let qs : List ℕ = take l.count ps in
      ap (fields_of l.width l.count) (written_bits start l (pixels_written l ps) b s long (length_pixels_written l ps s room) ∙ sym (append-nil (packed_of l.width qs)))
      ∙ ap (λ (n : ℕ). fields_of l.width n (packed_of l.width qs ++ [])) (sym (length-take-le l.count ps room))
      ∙ fields_packed l.width qs [] small
