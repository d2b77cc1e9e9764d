-- THE WAY ROUND: lines to the writer, its recording cut in any way, the reader. The lines that are handed out are the lines
-- that were written, bit for bit. Assumes nothing.
use mathlib.Core.List.{List, map}
use mathlib.Core.Logic.{◌↔◌}
use mathlib.Core.Path.{◌≡◌, sym, ap, ◌∙◌}
use Prim.Native.Nat.{ℕ, ◌≤◌}
use native.Mathlib.Omega.{arith}
use lib.ListN.{length, take}
use lib.Seq.{length-take-le}
use Rattle.bits.specs.Bits.{bits_of, Below, in_arow}
use Rattle.bits.proofs.Fields.{packed_inj}
use Rattle.formats.specs.Formats.{format_of, line_bytes}
use Rattle.formats.specs.declared.Format.{Format}
use Rattle.std.specs.Prelude.{Ok}
use Rattle.cuts.specs.Driven.{Driven, line_in}
use Rattle.reader_bits.specs.Lines.{recorded}
use Rattle.reader_record.specs.Records.{fresh_state}
use Rattle.reader_refusals.specs.Refusing.{largest_setting}
use Rattle.cuts.proofs.Demand.{demand_3}
use Rattle.demands.specs.RoundTrip.{PlainLine, PlainLines, recording_of}
use Rattle.demands.proofs.RoundTrip.{round_trip}

-- DEMAND 2 WITH DEMAND 3: the recording of any run of plain lines, cut into any pieces, read by a fresh reader at any
-- setting with any full-size buffers: the lines handed out are exactly those lines, in order. What was written in one format may be
-- read in another: where the lines stand does not go by it
pub there_and_back : (n : ℕ) (f : Format) → format_of n ≡ Ok f → (m : ℕ) (g : Format) → format_of m ≡ Ok g → (setting : ℕ) → setting ≤ largest_setting
    → (lend : ℕ → List ℕ → List ℕ) → ((k : ℕ) (buf : List ℕ) → 44356 ≤ length buf → 44356 ≤ length (lend k buf)) → (buf : List ℕ) → 44356 ≤ length buf
    → (ls : List (List ℕ)) → PlainLines ls → (ps : List (List ℕ)) → in_arow ps ≡ recording_of f ls
    → (out : List (List ℕ)) → Driven m setting lend 0 fresh_state buf ps out ↔ (out ≡ map bits_of ls)
there_and_back n f e m g h setting small lend long buf room ls plain ps cut out =
    let d = demand_3 m g h setting small lend long buf room ps out in
    let same : recorded setting (in_arow ps) ≡ map bits_of ls = ap (recorded setting) cut ∙ round_trip n f e setting (omega arith) ls plain in
    (λ x. d.0 x ∙ same, λ y. d.1 (y ∙ sym same))

-- the bits of a line in a buffer are those of a plain line only where its bytes are
pub bytes_back : (buf line : List ℕ) → Below 256 (take line_bytes buf) → PlainLine line → line_bytes ≤ length buf → line_in buf ≡ bits_of line → take line_bytes buf ≡ line
unfolding line_in bits_of
bytes_back buf line b p room e =
    packed_inj 8 (take line_bytes buf) line (length-take-le line_bytes buf room ∙ sym p.long) b p.bytes e
