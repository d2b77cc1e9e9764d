-- ID, check word and filler put around data: the three writes one after the other are the sector written. Assumes
-- nothing.
use mathlib.Core.Path.{◌≡◌, refl, sym, ap, ap₂, ◌∙◌}
use mathlib.Core.List.{List, ◌++◌, append_assoc}
use Prim.Native.Nat.{ℕ, suc, ◌+◌, ◌*◌, ◌/◌, ◌^◌, ◌≤◌, ◌<◌}
use native.Mathlib.Omega.{arith}
use lib.ListN.{length, get_or, take, drop, replicate, length-append, take-append-drop}
use lib.Seq.{take_at, drop_at, take-add, take-append-le, drop-cons, length-take-le}
use Rattle.formats.specs.Formats.{line_bytes}
use Rattle.bits.specs.Bits.{digits, packed_of, bits_of, stretch}
use Rattle.bits.proofs.Digits.{length_digits, digits_take}
use Rattle.bits.proofs.Bytes.{length_bits, bits_take, bits_drop, bits_cons}
use Rattle.bits.proofs.Packed.{length_packed}
use Rattle.bits.proofs.Stretches.{stretch_length}
use Rattle.crc_step.specs.Remainder.{check_word_of}
use Rattle.sector_table.specs.declared.layout.Layout.{Layout}
use Rattle.sector_table.specs.Layout.{data_at, check_at, filler_at, check_bits, filler_bits, bytes_of, Sound}
use Rattle.sector_check.specs.Sector.{data_bits_of}
use Rattle.sector_table.proofs.Bounds.{ends}
use Rattle.sector_frame.specs.Written.{head_of, sector_of, sector_written, data_written, pixels_written}
use Rattle.bits.proofs.Stretches.{swap, piece, cut}

-- a line cut at a sector's edges: what lies before it, ID, data, check bits, filler, what lies behind it
pub whole : (l : Layout) (b : List ℕ) → Sound l
    → b ≡ take l.start b
    ++ (stretch b l.start l.id_bits ++ (stretch b (data_at l) l.data_bits ++ (stretch b (check_at l) check_bits ++ (stretch b (filler_at l) filler_bits ++ drop (l.start + l.bits) b))))
whole l b s =
    let end : filler_at l + filler_bits ≡ l.start + l.bits = omega (arith, s.whole) in
    sym (take-append-drop l.start b)
    ∙ ap (λ (t : List ℕ). take l.start b ++ t)
    (cut b l.start l.id_bits
    ∙ ap (λ (t : List ℕ). stretch b l.start l.id_bits ++ t)
    (cut b (data_at l) l.data_bits
    ∙ ap (λ (t : List ℕ). stretch b (data_at l) l.data_bits ++ t)
    (cut b (check_at l) check_bits
    ∙ ap (λ (t : List ℕ). stretch b (check_at l) check_bits ++ t)
    (cut b (filler_at l) filler_bits ∙ ap (λ (k : ℕ). stretch b (filler_at l) filler_bits ++ drop k b) end))))

two : (a x y r : List ℕ) → a ++ (x ++ (y ++ r)) ≡ ((a ++ x) ++ y) ++ r
two a x y r = simp append_assoc

flat : (a i d w z e : List ℕ) → (((a ++ i) ++ d) ++ w) ++ (z ++ e) ≡ a ++ ((i ++ d) ++ (w ++ z)) ++ e
flat a i d w z e = simp append_assoc

-- THE THREE WRITES
pub framed : (start : ℕ) (l : Layout) (b b1 b2 b3 : List ℕ) (word : ℕ) → Sound l → l.start + l.bits ≤ length b
    → b1 ≡ take l.start b ++ digits l.id_bits l.id ++ drop (l.start + l.id_bits) b
    → word ≡ check_word_of start (stretch b1 l.start (l.id_bits + l.data_bits))
    → b2 ≡ take (check_at l) b1 ++ digits check_bits word ++ drop (check_at l + check_bits) b1
    → b3 ≡ take (filler_at l) b2 ++ replicate filler_bits 0 ++ drop (filler_at l + filler_bits) b2
    → b3 ≡ sector_written start l (data_bits_of l b) b
unfolding sector_written sector_of head_of data_bits_of
framed start l b b1 b2 b3 word s long e1 ew e2 e3 =
    let A : List ℕ = take l.start b in
    let I : List ℕ = digits l.id_bits l.id in
    let I0 : List ℕ = stretch b l.start l.id_bits in
    let D : List ℕ = stretch b (data_at l) l.data_bits in
    let W : List ℕ = digits check_bits word in
    let W0 : List ℕ = stretch b (check_at l) check_bits in
    let Z : List ℕ = replicate filler_bits 0 in
    let Z0 : List ℕ = stretch b (filler_at l) filler_bits in
    let E : List ℕ = drop (l.start + l.bits) b in
    let la : length A ≡ l.start = length-take-le l.start b (omega arith) in
    let li : length I ≡ l.id_bits = length_digits l.id_bits l.id in
    let ld : length D ≡ l.data_bits = stretch_length b (data_at l) l.data_bits (omega (arith, s.whole)) in
    let lai : length ((A ++ I) ++ D) ≡ check_at l = omega (arith, length-append (A ++ I) D, length-append A I) in
    let lw : length (((A ++ I) ++ D) ++ W) ≡ filler_at l = omega (arith, length-append ((A ++ I) ++ D) W, length_digits check_bits word) in
    let s1 : b1 ≡ A ++ (I ++ (D ++ (W0 ++ (Z0 ++ E)))) =
    e1 ∙ swap A I0 I (D ++ (W0 ++ (Z0 ++ E))) b l.start l.id_bits (whole l b s) la (stretch_length b l.start l.id_bits (omega (arith, s.whole))) in
    let s2 : b2 ≡ ((A ++ I) ++ D) ++ (W ++ (Z0 ++ E)) =
    e2 ∙ swap ((A ++ I) ++ D) W0 W (Z0 ++ E) b1 (check_at l) check_bits (s1 ∙ two A I D (W0 ++ (Z0 ++ E))) lai (stretch_length b (check_at l) check_bits (omega (arith, s.whole))) in
    let s3 : b3 ≡ (((A ++ I) ++ D) ++ W) ++ (Z ++ E) =
    e3 ∙ swap (((A ++ I) ++ D) ++ W) Z0 Z E b2 (filler_at l) filler_bits (s2 ∙ sym (append_assoc ((A ++ I) ++ D) W (Z0 ++ E))) lw (stretch_length b (filler_at l) filler_bits (omega (arith, s.whole))) in
    let head : stretch b1 l.start (l.id_bits + l.data_bits) ≡ I ++ D =
    piece A (I ++ D) (W0 ++ (Z0 ++ E)) b1 l.start (l.id_bits + l.data_bits) (s1 ∙ ap (λ (t : List ℕ). A ++ t) (sym (append_assoc I D (W0 ++ (Z0 ++ E))))) la (length-append I D ∙ ap₂ ◌+◌ li ld) in
    s3 ∙ flat A I D W Z E ∙ ap (λ (n : ℕ). A ++ ((I ++ D) ++ (digits check_bits n ++ Z)) ++ E) (ew ∙ ap (check_word_of start) head)

-- ---- data laid into a line, and then the frame around them

five : (a i d w z e : List ℕ) → a ++ (i ++ (d ++ (w ++ (z ++ e)))) ≡ ((((a ++ i) ++ d) ++ w) ++ z) ++ e
five a i d w z e = simp append_assoc

pub laid : (start : ℕ) (l : Layout) (b b1 d : List ℕ) → Sound l → l.start + l.bits ≤ length b → length d ≡ l.data_bits
    → b1 ≡ take (data_at l) b ++ d ++ drop (data_at l + l.data_bits) b → sector_written start l (data_bits_of l b1) b1 ≡ sector_written start l d b
unfolding sector_written data_bits_of
laid start l b b1 d s long ld e =
    let A : List ℕ = take l.start b in
    let I : List ℕ = stretch b l.start l.id_bits in
    let D : List ℕ = stretch b (data_at l) l.data_bits in
    let W : List ℕ = stretch b (check_at l) check_bits in
    let Z : List ℕ = stretch b (filler_at l) filler_bits in
    let E : List ℕ = drop (l.start + l.bits) b in
    let R : List ℕ = W ++ (Z ++ E) in
    let la : length A ≡ l.start = length-take-le l.start b (omega arith) in
    let li : length I ≡ l.id_bits = stretch_length b l.start l.id_bits (omega (arith, s.whole)) in
    let lw : length W ≡ check_bits = stretch_length b (check_at l) check_bits (omega (arith, s.whole)) in
    let lz : length Z ≡ filler_bits = stretch_length b (filler_at l) filler_bits (omega (arith, s.whole)) in
    let lai : length (A ++ I) ≡ data_at l = length-append A I ∙ ap₂ ◌+◌ la li in
    let before : b ≡ (A ++ I) ++ (D ++ R) = whole l b s ∙ sym (append_assoc A I (D ++ R)) in
    let now : b1 ≡ (A ++ I) ++ (d ++ R) = e ∙ swap (A ++ I) D d R b (data_at l) l.data_bits before lai (stretch_length b (data_at l) l.data_bits (omega (arith, s.whole))) in
    let flat1 : b1 ≡ A ++ (I ++ (d ++ R)) = now ∙ append_assoc A I (d ++ R) in
    let lall : length ((((A ++ I) ++ d) ++ W) ++ Z) ≡ l.start + l.bits =
    omega (arith, length-append (((A ++ I) ++ d) ++ W) Z, length-append ((A ++ I) ++ d) W, length-append (A ++ I) d, s.whole) in
    let front : take l.start b1 ≡ A = ap (take l.start) flat1 ∙ take_at A (I ++ (d ++ R)) l.start la in
    let back : drop (l.start + l.bits) b1 ≡ E = ap (drop (l.start + l.bits)) (flat1 ∙ five A I d W Z E) ∙ drop_at ((((A ++ I) ++ d) ++ W) ++ Z) E (l.start + l.bits) lall in
    let mid : stretch b1 (data_at l) l.data_bits ≡ d = piece (A ++ I) d R b1 (data_at l) l.data_bits now lai ld in
    ap₂ (λ (x y : List ℕ). x ++ sector_of start l (stretch b1 (data_at l) l.data_bits) ++ y) front back
    ∙ ap (λ (x : List ℕ). A ++ sector_of start l x ++ E) mid

pub length_data_written : (l : Layout) (bytes : List ℕ) → bytes_of l ≤ length bytes → length (data_written l bytes) ≡ l.data_bits
unfolding data_written
length_data_written l bytes h = length-take-le l.data_bits (bits_of bytes) (rw length_bits (omega arith))

pub length_pixels_written : (l : Layout) (ps : List ℕ) → Sound l → l.count ≤ length ps → length (pixels_written l ps) ≡ l.data_bits
unfolding pixels_written
length_pixels_written l ps s h =
    length_packed l.width (take l.count ps) ∙ ap (λ (n : ℕ). n * l.width) (length-take-le l.count ps h) ∙ sym s.pixels

-- as the code lays them: out of a buffer that holds the line, and then the frame around them
module _ (start : ℕ) (l : Layout) (s b1 : List ℕ) (sound : Sound l) (line : line_bytes ≤ length s) where
  long : l.start + l.bits ≤ length (bits_of s)
  long = rw length_bits (ends l (length s) sound line)

  pub data_laid : (bytes : List ℕ) → bytes_of l ≤ length bytes → b1 ≡ take (data_at l) (bits_of s) ++ data_written l bytes ++ drop (data_at l + l.data_bits) (bits_of s)
      → sector_written start l (data_bits_of l b1) b1 ≡ sector_written start l (data_written l bytes) (bits_of s)
  data_laid bytes room e = laid start l (bits_of s) b1 (data_written l bytes) sound long (length_data_written l bytes room) e

  pub pixels_laid : (ps : List ℕ) → l.count ≤ length ps
      → b1 ≡ take (data_at l) (bits_of s) ++ packed_of l.width (take l.count ps) ++ drop (data_at l + l.count * l.width) (bits_of s)
      → sector_written start l (data_bits_of l b1) b1 ≡ sector_written start l (pixels_written l ps) (bits_of s)
  unfolding pixels_written
  pixels_laid ps room e =
      laid start l (bits_of s) b1 (pixels_written l ps) sound long (length_pixels_written l ps sound room)
      (e ∙ ap (λ (n : ℕ). take (data_at l) (bits_of s) ++ packed_of l.width (take l.count ps) ++ drop (data_at l + n) (bits_of s)) (sym sound.pixels))

-- ---- data bytes

-- whole bytes, and the high bits of the one behind them
pub bytes_written : (bytes : List ℕ) (k w spare : ℕ) → k < length bytes → w + spare ≡ 8
    → packed_of 8 (take k bytes) ++ digits w (get_or bytes k 0 / 2 ^ spare) ≡ take (k * 8 + w) (bits_of bytes)
bytes_written bytes k w spare h e =
    let x : ℕ = get_or bytes k 0 in
    let r : List ℕ = drop (suc k) bytes in
    let tail : take w (drop (k * 8) (bits_of bytes)) ≡ digits w (x / 2 ^ spare) =
    ap (take w) (bits_drop bytes k ∙ ap bits_of (drop-cons bytes k 0 h) ∙ bits_cons x r)
    ∙ take-append-le w (digits 8 x) (bits_of r) (rw length_digits (omega arith))
    ∙ ap (λ (n : ℕ). take w (digits n x)) (sym e) ∙ digits_take w spare x in
    sym (take-add (k * 8) w (bits_of bytes) ∙ ap₂ (λ (p q : List ℕ). p ++ q) (bits_take bytes k ∙ packed (take k bytes)) tail)
  where
    packed : (s : List ℕ) → bits_of s ≡ packed_of 8 s
    packed s = unfold bits_of in refl
