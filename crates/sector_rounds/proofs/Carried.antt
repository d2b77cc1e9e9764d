-- WHAT A SECTOR OF A LINE HOLDS, ITS BITS CARRY: it is accepted, has no filler bit set, and its data or its pixels are those put
-- into it last, also after calls on other sectors and after calls that are refused. Assumes nothing.
use mathlib.Core.Path.{◌≡◌, refl, sym, ap, subst, ◌∙◌}
use mathlib.Core.List.{List, ◌++◌}
use Prim.Native.Nat.{ℕ, zero, suc, ◌+◌, ◌≤◌}
use native.Mathlib.Nat.{suc-ne-zero}
use native.Mathlib.Omega.{arith}
use lib.ListN.{length, take, drop, length-append, length-drop}
use Rattle.refusals.specs.Refusals.{first, outside_of}
use Rattle.refusals.proofs.Words.{none_first, kept_none, kept_some}
use Rattle.formats.specs.Formats.{information_bits, line_bytes, format_refusal, check_start}
use Rattle.bits.specs.Bits.{bits_of, Below}
use Rattle.bits.proofs.Bytes.{length_bits}
use Rattle.sector_table.specs.declared.layout.Layout.{Layout}
use Rattle.sector_table.specs.Layout.{layout_of, bytes_of, Sound}
use Rattle.sector_table.specs.Asked.{asked_of}
use Rattle.sector_check.specs.Sector.{answer_of, filler_of, data_of, pixels_of}
use Rattle.sector_table.proofs.Table.{sound}
use Rattle.sector_frame.specs.Written.{sector_of, sector_written, data_written, pixels_written}
use Rattle.sector_frame.proofs.Frames.{length_data_written, length_pixels_written}
use Rattle.write_refusals.specs.Refusing.{put_data_answer, put_pixels_answer}
use Rattle.sector_writer.specs.Calls.{put_data_left, put_pixels_left}
use Rattle.write_refusals.proofs.Writable.{Writable, data_writable, pixels_writable, pixels_fit}
use Rattle.sector_rounds.specs.Cleared.{cleared_of}
use Rattle.sector_rounds.specs.Puts as puts
use Rattle.sector_rounds.specs.Puts.{Put, Data, Pixels, Wide, Fits, put_answer, put_left, Holds}
use Rattle.sector_rounds.proofs.Back.{written_accepted, written_filler}
use Rattle.sector_rounds.proofs.RoundTrip.{data_back, pixels_back}
use Rattle.sector_rounds.proofs.Others.{length_front, Alike, others}

-- ---- what a call puts

-- the sectors that its call serves
abbrev pub low_of : Put → ℕ
low_of (Data bytes) = 1
low_of (Pixels ps) = 2
low_of (Wide ps) = 12

abbrev pub high_of : Put → ℕ
high_of (Data bytes) = 12
high_of (Pixels ps) = 11
high_of (Wide ps) = 12

-- one of the twelve
pub one_of : (w : Put) (n : ℕ) → low_of w ≤ n → n ≤ high_of w → (1 ≤ n) × (n ≤ 12)
one_of (Data bytes) n low high = (low, high)
one_of (Pixels ps) n low high = (omega arith, omega arith)
one_of (Wide ps) n low high = (omega arith, omega arith)

-- what is read of a sector whose bits carry w
abbrev pub Gives : ℕ → Put → List ℕ → Type 0
Gives n (Data bytes) b = data_of (layout_of n) b ≡ cleared_of (layout_of n) bytes
Gives n (Pixels ps) b = pixels_of (layout_of n) b ≡ take (layout_of n).count ps
Gives n (Wide ps) b = pixels_of (layout_of n) b ≡ take (layout_of n).count ps

-- bits in which sector n of a line, one from lo to hi, was written with some data bits
record Wrote (lo hi f n : ℕ) (line b : List ℕ) : Type 0 where
  known : format_refusal f ≡ 0
  low : lo ≤ n
  high : n ≤ hi
  full : line_bytes ≤ length line
  bits : List ℕ
  long : length bits ≡ (layout_of n).data_bits
  is : b ≡ sector_written (check_start f) (layout_of n) bits (bits_of line)

known_format : (f lo hi n rest : ℕ) → first (asked_of f lo hi n) rest ≡ 0 → format_refusal f ≡ 0
unfolding asked_of
known_format f lo hi n rest e = none_first (format_refusal f) (outside_of lo hi n 4) (none_first (first (format_refusal f) (outside_of lo hi n 4)) rest e)

room : (n : ℕ) (line : List ℕ) → Sound (layout_of n) → line_bytes ≤ length line → (layout_of n).start + (layout_of n).bits ≤ length (bits_of line)
room n line s long = rw length_bits (omega (arith, s.inside))

data_wrote : (f n : ℕ) (bytes line b : List ℕ) → put_data_answer f (length line) n (length bytes) ≡ 0 → b ≡ put_data_left f line n bytes
    → Wrote 1 12 f n line b × (Below 256 bytes → data_of (layout_of n) b ≡ cleared_of (layout_of n) bytes)
unfolding put_data_left put_data_answer
data_wrote f n bytes line b e left =
    let h : Writable 1 12 n (length line) (length bytes) (bytes_of (layout_of n)) = data_writable f (length line) n (length bytes) e in
    let s = sound n h.low h.high in
    let d : List ℕ = data_written (layout_of n) bytes in
    let is : b ≡ sector_written (check_start f) (layout_of n) d (bits_of line) = left ∙ kept_none (put_data_answer f (length line) n (length bytes)) (bits_of line) _ e in (
      record { known = known_format f 1 12 n _ e; low = h.low; high = h.high; full = h.long; bits = d; long = length_data_written (layout_of n) bytes h.given_all; is = is },
      λ small. ap (data_of (layout_of n)) is ∙ data_back (check_start f) (layout_of n) (bits_of line) s (room n line s h.long) bytes h.given_all small,
    )

pixels_wrote : (lo hi f n : ℕ) (ps line b : List ℕ) → 1 ≤ lo → hi ≤ 12 → put_pixels_answer lo hi f (length line) n ps ≡ 0 → b ≡ put_pixels_left lo hi f line n ps
    → Wrote lo hi f n line b × (pixels_of (layout_of n) b ≡ take (layout_of n).count ps)
unfolding put_pixels_left put_pixels_answer
pixels_wrote lo hi f n ps line b one top e left =
    let h : Writable lo hi n (length line) (length ps) (layout_of n).count = pixels_writable lo hi f (length line) n ps e in
    let s = sound n (omega (arith, h.low)) (omega (arith, h.high)) in
    let d : List ℕ = pixels_written (layout_of n) ps in
    let is : b ≡ sector_written (check_start f) (layout_of n) d (bits_of line) = left ∙ kept_none (put_pixels_answer lo hi f (length line) n ps) (bits_of line) _ e in (
      record { known = known_format f lo hi n _ e; low = h.low; high = h.high; full = h.long; bits = d; long = length_pixels_written (layout_of n) ps s h.given_all; is = is },
      ap (pixels_of (layout_of n)) is ∙ pixels_back (check_start f) (layout_of n) (bits_of line) s (room n line s h.long) ps h.given_all (pixels_fit lo hi f (length line) n ps e),
    )

put_wrote : (f n : ℕ) (w : Put) (line b : List ℕ) → put_answer f line n w ≡ 0 → b ≡ put_left f line n w → Wrote (low_of w) (high_of w) f n line b × (Fits w → Gives n w b)
put_wrote f n (Data bytes) line b e left = data_wrote f n bytes line b e left
put_wrote f n (Pixels ps) line b e left = let h = pixels_wrote 2 11 f n ps line b (omega arith) (omega arith) e left in (h.0, λ fits. h.1)
put_wrote f n (Wide ps) line b e left = let h = pixels_wrote 12 12 f n ps line b (omega arith) (omega arith) e left in (h.0, λ fits. h.1)

put_refused : (f n : ℕ) (w : Put) (line : List ℕ) → (put_answer f line n w ≡ 0 → ⊥) → put_left f line n w ≡ bits_of line
unfolding put_data_left put_pixels_left
put_refused f n (Data bytes) line h = kept_some _ _ _ h
put_refused f n (Pixels ps) line h = kept_some _ _ _ h
put_refused f n (Wide ps) line h = kept_some _ _ _ h

-- ---- the bits that it left

-- BITS CARRY w in sector n
pub record Carries (f n : ℕ) (w : Put) (b : List ℕ) : Type 0 where
  pub known : format_refusal f ≡ 0
  pub low : low_of w ≤ n
  pub high : n ≤ high_of w
  pub answer : answer_of (check_start f) (layout_of n) b ≡ 0
  pub filler : filler_of (layout_of n) b ≡ 0
  pub gives : Gives n w b

gives_alike : (n : ℕ) (w : Put) (b c : List ℕ) → Alike n b c → Gives n w c → Gives n w b
gives_alike n (Data bytes) b c a g = a.bytes ∙ g
gives_alike n (Pixels ps) b c a g = a.pixels ∙ g
gives_alike n (Wide ps) b c a g = a.pixels ∙ g

pub carries_alike : (f n : ℕ) (w : Put) (b c : List ℕ) → Alike n b c → Carries f n w c → Carries f n w b
carries_alike f n w b c a h =
    record {
      known = h.known;
      low = h.low;
      high = h.high;
      answer = a.answer (check_start f) ∙ h.answer;
      filler = a.filler ∙ h.filler;
      gives = gives_alike n w b c a h.gives;
    }

wrote_carries : (f n : ℕ) (w : Put) (line b : List ℕ) → Wrote (low_of w) (high_of w) f n line b → Gives n w b → Carries f n w b
wrote_carries f n w line b h g =
    let l : Layout = layout_of n in
    let in_table = one_of w n h.low h.high in
    let s : Sound l = sound n in_table.0 in_table.1 in
    let r = room n line s h.full in
    record {
      known = h.known;
      low = h.low;
      high = h.high;
      answer = ap (answer_of (check_start f) l) h.is ∙ written_accepted (check_start f) l h.bits (bits_of line) s r h.long;
      filler = ap (filler_of l) h.is ∙ written_filler (check_start f) l h.bits (bits_of line) s r h.long;
      gives = g;
    }

-- a refused call
refused_carries : (f n g m : ℕ) (w v : Put) (line b : List ℕ) → (put_answer g line m v ≡ 0 → ⊥) → b ≡ put_left g line m v → Carries f n w (bits_of line) → Carries f n w b
refused_carries f n g m w v line b r left c = subst (λ (x : List ℕ). Carries f n w x) (sym (left ∙ put_refused g m v line r)) c

-- a call on another sector, refused or not
other_carries : (f n g m : ℕ) (w v : Put) (line b : List ℕ) → (n ≡ m → ⊥) → b ≡ put_left g line m v → Carries f n w (bits_of line) → Carries f n w b
other_carries f n g m w v line b other left c = go (put_answer g line m v) refl
  where
    written : Wrote (low_of v) (high_of v) g m line b → Carries f n w b
    written h =
        let here = one_of w n c.low c.high in
        let there = one_of v m h.low h.high in
        let all : information_bits ≤ length (bits_of line) = rw length_bits (omega (arith, h.full)) in
        subst (λ (x : List ℕ). Carries f n w x) (sym h.is)
        (carries_alike f n w (sector_written (check_start g) (layout_of m) h.bits (bits_of line)) (bits_of line)
        (others (check_start g) n m h.bits (bits_of line) here.0 here.1 there.0 there.1 other all h.long) c)

    go : (r : ℕ) → put_answer g line m v ≡ r → Carries f n w b
    go zero e = written (put_wrote g m v line b e left).0
    go (suc r) e = refused_carries f n g m w v line b (λ z. suc-ne-zero r (sym e ∙ z)) left c

-- a line keeps its length
wrote_length : (f n : ℕ) (w : Put) (line b : List ℕ) → Wrote (low_of w) (high_of w) f n line b → length b ≡ length (bits_of line)
unfolding sector_written
wrote_length f n w line b h =
    let l : Layout = layout_of n in
    let in_table = one_of w n h.low h.high in
    let s : Sound l = sound n in_table.0 in_table.1 in
    let r = room n line s h.full in
    ap length h.is ∙ length-append (take l.start (bits_of line) ++ sector_of (check_start f) l h.bits) (drop (l.start + l.bits) (bits_of line))
    ∙ omega (arith, length_front (check_start f) l h.bits (bits_of line) s r h.long, length-drop (l.start + l.bits) (bits_of line), r)

put_length : (f n : ℕ) (w : Put) (line line' : List ℕ) → bits_of line' ≡ put_left f line n w → length line' ≡ length line
put_length f n w line line' left = go (put_answer f line n w) refl
  where
    go : (r : ℕ) → put_answer f line n w ≡ r → length line' ≡ length line
    go zero e = omega (arith, wrote_length f n w line (bits_of line') (put_wrote f n w line (bits_of line') e left).0, length_bits line, length_bits line')
    go (suc r) e = omega (arith, ap length (left ∙ put_refused f n w line (λ z. suc-ne-zero r (sym e ∙ z))), length_bits line, length_bits line')

-- a line of which a sector holds something is whole
pub holds_full : (f n : ℕ) (w : Put) {line' : List ℕ} → Holds f n w line' → line_bytes ≤ length line'
holds_full f n w {line'} (puts.Holds.put line fits e left) = omega (arith, (put_wrote f n w line (bits_of line') e left).0.full, put_length f n w line line' left)
holds_full f n w {line'} (puts.Holds.other {line = line} g m v h other left) = omega (arith, holds_full f n w h, put_length g m v line line' left)
holds_full f n w {line'} (puts.Holds.refused {line = line} g m v h r left) = omega (arith, holds_full f n w h, put_length g m v line line' left)

-- WHAT A SECTOR HOLDS, its bits carry
pub holds_carries : (f n : ℕ) (w : Put) {line' : List ℕ} → Holds f n w line' → Carries f n w (bits_of line')
holds_carries f n w {line'} (puts.Holds.put line fits e left) =
    let h = put_wrote f n w line (bits_of line') e left in
    wrote_carries f n w line (bits_of line') h.0 (h.1 fits)
holds_carries f n w {line'} (puts.Holds.other {line = line} g m v h other left) = other_carries f n g m w v line (bits_of line') other left (holds_carries f n w h)
holds_carries f n w {line'} (puts.Holds.refused {line = line} g m v h r left) = refused_carries f n g m w v line (bits_of line') r left (holds_carries f n w h)
