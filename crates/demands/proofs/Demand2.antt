-- DEMAND 2: what is put into the sectors of plain lines comes back, through the writer, any cut of its recording, and the reader
-- at any setting (`demand_2`). Assumes nothing.
use mathlib.Core.List.{List, [], ◌∷◌, ◌++◌, map}
use mathlib.Core.Path.{◌≡◌, refl, sym, ap, ap₂, subst, ◌∙◌}
use Prim.Native.Nat.{ℕ, suc, ◌≤◌}
use native.Mathlib.Omega.{arith}
use lib.ListN.{length, get_or, take, drop, length-append, get_or-map}
use lib.Seq.{length-take-le, take_at, take-take, get_or-append_seam, get_or-take}
use Rattle.refusals.proofs.Numbers.{answered_ok}
use Rattle.refusals.specs.Refusals.{short_of}
use Rattle.refusals.proofs.Words.{none_first, none_second, enough, kept_none}
use Rattle.bits.specs.Bits.{bits_of, fields_of, in_arow}
use Rattle.bits.proofs.Below.{below_take}
use Rattle.bits.proofs.Bytes.{no_bits, bits_append}
use Rattle.bits.proofs.Fields.{length_fields}
use Rattle.formats.specs.Formats.{format_of, format_refusal, line_bytes, named_by}
use Rattle.formats.proofs.Which.{named_by_is}
use Rattle.writer.specs.Wire.{on_wire, wire_bytes, write_line_refusal, write_line_answer, write_line_left}
use Rattle.formats.specs.declared.Format.{Format}
use Rattle.std.specs.Prelude.{Ok}
use Rattle.cuts.specs.Driven.{Driven, Moment, Standing, line_in}
use Rattle.reader_bits.specs.Lines.{lines, recorded}
use Rattle.reader_record.specs.Records.{fresh_state}
use Rattle.reader_refusals.specs.Refusing.{largest_setting}
use Rattle.reader_record.specs.declared.State.{State}
use Rattle.cuts.proofs.Later.{lines_first}
use Rattle.cuts.proofs.Moments.{full_size, of_the_bytes}
use Rattle.cuts.proofs.Standing.{line_stands}
use Rattle.sector_rounds.specs.Puts.{Put, Holds, ComesBack}
use Rattle.sector_rounds.proofs.Others.{alike_back}
use Rattle.sector_rounds.proofs.Carried.{Carries, one_of, carries_alike, holds_full, holds_carries}
use Rattle.sector_rounds.proofs.Rounds.{comes_back}
use Rattle.demands.specs.RoundTrip as trip
use Rattle.demands.specs.RoundTrip.{PlainLines, recording_of, Recording, ComeBack}
use Rattle.demands.proofs.InLine.{line_alike}
use Rattle.demands.proofs.RoundTrip.{round_trip}
use Rattle.demands.proofs.Demands.{there_and_back}

-- ---- the sectors on the way round

-- one buffer's line has the bits of another's: what a sector of the one carries, it carries in the other
line_carries : (n k : ℕ) (w : Put) (line buf : List ℕ) → line_bytes ≤ length line → line_bytes ≤ length buf → line_in buf ≡ line_in line
    → 1 ≤ k → k ≤ 12 → Carries n k w (bits_of line) → Carries n k w (bits_of buf)
line_carries n k w line buf full room same low high c =
    carries_alike n k w (bits_of buf) (line_in buf) (line_alike buf room k low high)
    (subst (λ (b : List ℕ). Carries n k w b) (sym same) (carries_alike n k w (line_in line) (bits_of line) (alike_back (line_alike line full k low high)) c))

-- ---- the calls of `write_line`

-- one that is not refused
record Wrote (f : Format) (line left : List ℕ) (count : ℕ) : Type 0 where
  full : line_bytes ≤ length line
  put : take count left ≡ wire_bytes f (take line_bytes line)

wrote : (n : ℕ) (f : Format) → format_of n ≡ Ok f → (line out : List ℕ) (count : ℕ) → write_line_answer n line out ≡ Ok count → Wrote f line (write_line_left n line out) count
unfolding write_line_answer write_line_left write_line_refusal wire_bytes
wrote n f e line out count answer =
    let u = answered_ok (write_line_refusal n (length line) (length out)) (named_by n).bytes count answer in
    let tests = none_second (format_refusal n) _ u.0 in
    record {
      full = enough (length line) line_bytes 2 (λ z. omega arith) (none_first (short_of (length line) line_bytes 2) _ tests);
      put =
          ap (take count) (kept_none (write_line_refusal n (length line) (length out)) out _ u.0)
          ∙ take_at (wire_bytes (named_by n) line) (drop (named_by n).bytes out) count (length_fields 8 (named_by n).bytes _ ∙ u.1)
          ∙ ap (λ (g : Format). wire_bytes g line) (named_by_is n f e)
          ∙ ap (λ (x : List ℕ). fields_of 8 f.bytes (on_wire f (bits_of x))) (sym (take-take line_bytes line_bytes line (omega arith)));
    }

-- what they make is the recording of the plain lines
pub recording_is : (n : ℕ) (f : Format) → format_of n ≡ Ok f → {ls : List (List ℕ)} {bytes : List ℕ} → Recording n ls bytes
    → PlainLines (map (take line_bytes) ls) × (bytes ≡ recording_of f (map (take line_bytes) ls))
unfolding PlainLines recording_of
recording_is n f e trip.Recording.none = (tt, refl)
recording_is n f e (trip.Recording.next {count = count} line out small answer r) =
    let w = wrote n f e line out count answer in
    let rest = recording_is n f e r in
    ((record { long = length-take-le line_bytes line w.full; bytes = below_take 256 line_bytes line small }, rest.0), ap₂ (λ (x y : List ℕ). x ++ y) w.put rest.1)

pub lines_in_is : (ls : List (List ℕ)) → map bits_of (map (take line_bytes) ls) ≡ map line_in ls
unfolding line_in
lines_in_is [] = refl
lines_in_is (l ∷ ls) = ap (λ (x : List (List ℕ)). bits_of (take line_bytes l) ∷ x) (lines_in_is ls)

nth_line : (ls : List (List ℕ)) (i : ℕ) → get_or (map line_in ls) i [] ≡ line_in (get_or ls i [])
unfolding line_in
nth_line ls i = ap (λ (x : List ℕ). get_or (map line_in ls) i x) (sym no_bits) ∙ get_or-map line_in ls i []

-- the i-th line written has the bits of the line in a buffer: what its sectors held comes back from that buffer
pub held_back : (n : ℕ) (ls : List (List ℕ)) (i sector : ℕ) (w : Put) (buf : List ℕ) → Holds n sector w (get_or ls i []) → line_bytes ≤ length buf → line_in buf ≡ get_or (map line_in ls) i []
    → ComesBack n sector w buf
held_back n ls i sector w buf h full stands =
    let c = holds_carries n sector w h in
    let table = one_of w sector c.low c.high in
    comes_back n sector buf full w (line_carries n sector w (get_or ls i []) buf (holds_full n sector w h) full (stands ∙ nth_line ls i) table.0 table.1 c)

module _ (n : ℕ) (f : Format) (e : format_of n ≡ Ok f) (setting : ℕ) (small : setting ≤ largest_setting)
    (lend : ℕ → List ℕ → List ℕ) (long : (k : ℕ) (buf : List ℕ) → 44356 ≤ length buf → 44356 ≤ length (lend k buf)) (first : List ℕ) (room : 44356 ≤ length first)
    {ls : List (List ℕ)} {recording : List ℕ} (r : Recording n ls recording) where
  -- DEMAND 2. What is put into the sectors of plain lines, the lines written, their recording cut in any way and read by a fresh
  -- reader with any full_size buffers: as many lines, the same, and every sector is accepted, has no filler set, and gives the
  -- same data, their spare bits cleared, and the same pixels
  pub demand_2 : (ps : List (List ℕ)) → in_arow ps ≡ recording → (out : List (List ℕ)) → Driven n setting lend 0 fresh_state first ps out → ComeBack n ls out
  demand_2 ps cut out d =
      let is = recording_is n f e r in
      let same : out ≡ map line_in ls = (there_and_back n f e n f e setting small lend long first room (map (take line_bytes) ls) is.0 ps (cut ∙ is.1) out).0 d ∙ lines_in_is ls in
      record { same = same; held = λ i sector w buf h full stands. held_back n ls i sector w buf h full (stands ∙ ap (λ (x : List (List ℕ)). get_or x i []) same) }

  -- and already while it is read: at every moment at which a line stands whole in the buffer, the i-th handed out, what the sectors
  -- of the i-th line written held comes back from that buffer
  pub demand_2_standing : {k : ℕ} {s : State} {buf bytes : List ℕ} {out : List (List ℕ)} (m : Moment n setting lend first k s buf bytes out) → Standing m → (rest : List ℕ) → bytes ++ rest ≡ recording
      → (i : ℕ) → length out ≡ suc i → (sector : ℕ) (w : Put) → Holds n sector w (get_or ls i []) → ComesBack n sector w buf
  unfolding recorded
  demand_2_standing {buf = buf} {bytes = bytes} {out = out} m whole rest cut i many sector w h =
      let is = recording_is n f e r in
      let l = line_stands m whole in
      let so : out ≡ recorded setting bytes = of_the_bytes n f e setting small lend long first room m in
      let all : lines setting (bits_of bytes ++ bits_of rest) ≡ map line_in ls =
      ap (lines setting) (sym (bits_append bytes rest)) ∙ ap (recorded setting) (cut ∙ is.1) ∙ round_trip n f e setting (omega arith) (map (take line_bytes) ls) is.0 ∙ lines_in_is ls in
      let front : out ≡ take (length out) (map line_in ls) =
      so ∙ sym (lines_first setting (bits_of bytes) (bits_of rest)) ∙ ap₂ (λ (j : ℕ) (x : List (List ℕ)). take j x) (ap length (sym so)) all in
      let last : length l.before ≡ i = omega (arith, many, ap length l.all, length-append l.before (line_in buf ∷ [])) in
      held_back n ls i sector w buf h (full_size n f e setting small lend long first room m)
      (sym (get_or-append_seam l.before (line_in buf) [] [])
      ∙ ap₂ (λ (x : List (List ℕ)) (j : ℕ). get_or x j []) (sym l.all ∙ front) last
      ∙ get_or-take (length out) (map line_in ls) i [] (omega arith))
