-- A LINE IS A LINE. At every moment of a run of calls at which a line stands whole in the buffer, each pixel joined from the buffer
-- is four times the upper part plus the lower part of that one line, the last that the plain definition finds in the bytes
-- taken (`a_line_is_a_line`). Assumes nothing.
use mathlib.Core.List.{List, ◌++◌}
use mathlib.Core.Path.{◌≡◌, refl, sym, ap, ap₂, ◌∙◌}
use Prim.Native.Nat.{ℕ, ◌+◌, ◌≤◌, ◌<◌}
use native.Mathlib.Omega.{arith}
use lib.ListN.{length, get_or, drop, get_or-append}
use Rattle.bits.proofs.Fields.{length_fields}
use Rattle.formats.specs.Formats.{format_of}
use Rattle.formats.specs.declared.Format.{Format}
use Rattle.std.specs.Prelude.{Ok}
use Rattle.reader_bits.specs.Lines.{recorded}
use Rattle.reader_record.specs.declared.State.{State}
use Rattle.reader_refusals.specs.Refusing.{largest_setting}
use Rattle.cuts.specs.Driven.{line_in, Moment, Standing}
use Rattle.cuts.proofs.Moments.{of_the_bytes}
use Rattle.cuts.proofs.Standing.{line_stands}
use Rattle.sector_table.specs.declared.layout.Layout.{Layout}
use Rattle.sector_table.specs.Layout.{sectors, layout_of, upper_of, lower_of}
use Rattle.sector_table.specs.Asked.{line_refusal}
use Rattle.sector_check.specs.Sector.{pixels_of, joined_pixel, joined_of}
use Rattle.sector_table.proofs.Admitted.{admitted}
use Rattle.sector_table.proofs.Rows.{Each, among}
use Rattle.sector_table.proofs.Table.{sound}
use Rattle.channel_refusals.specs.Refusing.{joined_answer}
use Rattle.channels.specs.Join.{joined_left}
use Rattle.sector_check.proofs.Pairs.{as_many, length_joined}
use Rattle.refusals.proofs.Words.{kept_none, none_first}
use Rattle.demands.specs.OneLine.{OneLine}
use Rattle.demands.proofs.InLine.{line_pixels, joined_at}

pixels_many : (l : Layout) (b : List ℕ) → length (pixels_of l b) ≡ l.count
unfolding pixels_of
pixels_many l b = length_fields l.width l.count _

upper_count : (channel : ℕ) → 1 ≤ channel → channel ≤ 3 → (upper_of channel).count ≡ 2291
unfolding Each layout_of sectors
upper_count channel low high = among (λ n. (upper_of n).count ≡ 2291) 1 3 channel (refl, (refl, (refl, tt))) low (omega arith)

-- a call that joins, on any buffer: each pixel is joined of the line in its first 44,356 bytes
pub joined_pixel_is : (f channel : ℕ) (buf out : List ℕ) → joined_answer f buf channel (length out) ≡ 0 → (i : ℕ) → i < 2291
    → get_or (joined_left f buf channel out) i 0 ≡ joined_pixel (get_or (pixels_of (upper_of channel) (line_in buf)) i 0) (get_or (pixels_of (lower_of channel) (line_in buf)) i 0)
unfolding joined_left joined_answer
joined_pixel_is f channel buf out e i h =
    let a = admitted f 1 3 channel (length buf) (none_first (line_refusal f 1 3 channel (length buf)) _ e) in
    let up = line_pixels buf a.long (upper_of channel) (sound (channel + 1) (omega (arith, a.low)) (omega (arith, a.high))) in
    let down = line_pixels buf a.long (lower_of channel) (sound (channel + 8) (omega (arith, a.low)) (omega (arith, a.high))) in
    let xs : List ℕ = pixels_of (upper_of channel) (line_in buf) in
    let ys : List ℕ = pixels_of (lower_of channel) (line_in buf) in
    let lx : length xs ≡ 2291 = pixels_many (upper_of channel) (line_in buf) ∙ upper_count channel a.low a.high in
    let ly : length ys ≡ 2291 = pixels_many (lower_of channel) (line_in buf) ∙ as_many channel a.low a.high ∙ upper_count channel a.low a.high in
    let same : length xs ≡ length ys = lx ∙ sym ly in
    ap (λ (x : List ℕ). get_or x i 0)
    (kept_none (joined_answer f buf channel (length out)) out _ e ∙ ap₂ (λ (x y : List ℕ). joined_of x y ++ drop (upper_of channel).count out) up down)
    ∙ get_or-append (joined_of xs ys) (drop (upper_of channel).count out) 0 i (omega (arith, length_joined xs ys same, lx))
    ∙ joined_at xs ys i same (omega (arith, lx))

-- THE CLAIM: a fresh reader on one format at one setting and full-size buffers, at any moment at which a line stands
pub a_line_is_a_line : (f : ℕ) (format : Format) → format_of f ≡ Ok format → (setting : ℕ) → setting ≤ largest_setting
    → (lend : ℕ → List ℕ → List ℕ) → ((k : ℕ) (buf : List ℕ) → 44356 ≤ length buf → 44356 ≤ length (lend k buf)) → (first : List ℕ) → 44356 ≤ length first
    → {k : ℕ} {s : State} {buf bytes : List ℕ} {ls : List (List ℕ)} (m : Moment f setting lend first k s buf bytes ls) → Standing m → OneLine f (recorded setting bytes) buf
a_line_is_a_line f format ok setting small lend long first room {buf = buf} m whole =
    let l = line_stands m whole in
    record {
      before = l.before;
      line = line_in buf;
      last = sym (of_the_bytes f format ok setting small lend long first room m) ∙ l.all;
      stands = refl;
      joined = λ channel out e i h. joined_pixel_is f channel buf out e i h;
    }
