-- Two parts joined, pixel by pixel: the turns of the loop that joins them. And what is known of the sectors of a channel that is not
-- refused. Assumes nothing.
use mathlib.Core.Path.{◌≡◌, refl, sym, ap, ap₂, ◌∙◌}
use mathlib.Core.List.{List, [], ◌++◌}
use Prim.Native.Nat.{ℕ, ◌+◌, ◌*◌, ◌≤◌, ◌<◌}
use native.Mathlib.Omega.{arith}
use lib.ListN.{length, drop, set, drop_of_length-le}
use Rattle.std.proofs.lemmas.List.{append-nil}
use Rattle.formats.specs.Formats.{line_bytes, check_start}
use Rattle.bits.specs.Bits.{bits_of, part, number_of, fields_of}
use Rattle.bits.proofs.Fields.{length_fields, field_turn}
use Rattle.bits.proofs.Writes.{grow}
use Rattle.sector_table.specs.declared.layout.Layout.{Layout}
use Rattle.sector_table.specs.Layout.{layout_of, upper_of, Sound}
use Rattle.sector_table.proofs.Table.{sound}
use Rattle.sector_check.specs.Sector.{joined_pixel, joined_of}
use Rattle.sector_check.proofs.Pairs.{length_joined, joined_more, upper_wide, lower_wide, as_many}
use Rattle.pixel_refusals.proofs.Readable.{Readable, readable_more}
use Rattle.channel_refusals.specs.Refusing.{joined_answer}

-- what stands in the output once i pixels are joined
unfoldable pub joining : List ℕ → ℕ → ℕ → ℕ → List ℕ
joining s upper lower i = joined_of (fields_of 8 i (drop upper (bits_of s))) (fields_of 2 i (drop lower (bits_of s)))

pub joining_none : (s : List ℕ) (upper lower : ℕ) (out : List ℕ) → out ≡ joining s upper lower 0 ++ drop 0 out
unfolding joining joined_of fields_of
joining_none s upper lower out = refl

-- THE TURN of the loop: out is what stands there after i turns, and first what stood there before
pub joining_turn : (s : List ℕ) (upper lower i high low r : ℕ) (out first : List ℕ) → high ≡ upper + i * 8 → low ≡ lower + i * 2
    → r ≡ 4 * number_of (part s high 8) + number_of (part s low 2) → i < length first
    → out ≡ joining s upper lower i ++ drop i first → set out i r ≡ joining s upper lower (i + 1) ++ drop (i + 1) first
unfolding joining
joining_turn s upper lower i high low r out first eh el is h e =
    let xs : List ℕ = fields_of 8 i (drop upper (bits_of s)) in
    let ys : List ℕ = fields_of 2 i (drop lower (bits_of s)) in
    let x : ℕ = number_of (part s high 8) in
    let y : ℕ = number_of (part s low 2) in
    let lx : length xs ≡ i = length_fields 8 i (drop upper (bits_of s)) in
    let ly : length ys ≡ i = length_fields 2 i (drop lower (bits_of s)) in
    ap₂ (λ (l : List ℕ) (v : ℕ). set l i v) e is
    ∙ grow (joined_of xs ys) (joined_pixel x y) first i (length_joined xs ys (lx ∙ sym ly) ∙ lx) h
    ∙ ap (λ (l : List ℕ). l ++ drop (i + 1) first)
    (sym (ap₂ joined_of (field_turn s upper 8 i high eh) (field_turn s lower 2 i low el) ∙ joined_more xs ys x y (lx ∙ sym ly)))

-- and behind the last
pub joining_all : (s : List ℕ) (upper lower i : ℕ) (out first : List ℕ) → i ≡ length first → out ≡ joining s upper lower i ++ drop i first
    → out ≡ joined_of (fields_of 8 (length first) (drop upper (bits_of s))) (fields_of 2 (length first) (drop lower (bits_of s)))
unfolding joining
joining_all s upper lower i out first all e =
    let none : drop i first ≡ [] = drop_of_length-le first (omega (arith, all)) in
    e ∙ ap (λ (l : List ℕ). joining s upper lower i ++ l) none ∙ append-nil (joining s upper lower i) ∙ ap (joining s upper lower) all

-- ---- what the call knows, and what it hands on

pub joined_readable : (f channel given : ℕ) (line : List ℕ) → 0 ≡ joined_answer f line channel given
    → Readable 1 3 channel (length line) (check_start f) (upper_of channel) (bits_of line) given (upper_of channel).count
unfolding joined_answer
joined_readable f channel given line e = readable_more f 1 3 _ _ _ _ _ _ _ _ (sym e)

-- u and l are the rows that the code has found
pub joined_ready : (f channel given : ℕ) (line : List ℕ) (u l : Layout) → 0 ≡ joined_answer f line channel given → u ≡ layout_of (channel + 1) → l ≡ layout_of (channel + 8)
    → Sound u × Sound l × (u.width ≡ 8) × (l.width ≡ 2) × (l.count ≡ u.count) × (line_bytes ≤ length line) × (u.count ≤ given)
joined_ready f n given line u l e eu el =
    let h = joined_readable f n given line e in
    rw (eu, el)
    (sound (n + 1) (omega arith) (omega (arith, h.high)), sound (n + 8) (omega arith) (omega (arith, h.high)), upper_wide n h.low h.high, lower_wide n h.low h.high, as_many n h.low h.high, h.long, h.room)
