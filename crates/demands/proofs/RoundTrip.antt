-- DEMAND 2, THE ROUND TRIP: the plain definition finds in the recording of any run of plain lines in one format exactly
-- those lines, in order, at each setting below 9 (`round_trip`). The same amid other bits: before the first line any that with SYNC behind them hold
-- no earlier tail, behind the last any in which no line is complete (`round_trip_amid`). Assumes nothing.
use mathlib.Core.List.{List, [], ◌∷◌, ◌++◌, map, append-nil}
use mathlib.Core.Path.{◌≡◌, refl, sym, ap, ap₂, ◌∙◌}
use Prim.Native.Nat.{ℕ, ◌-◌, ◌*◌, ◌≤◌, ◌<◌}
use native.Mathlib.Omega.{arith}
use lib.Dec.{lit<}
use lib.ListN.{length, take}
use lib.Seq.{take_all}
use Rattle.bits.specs.Bits.{packed_of, bits_of}
use Rattle.bits.proofs.Bytes.{length_bits, bits_below, bits_append}
use Rattle.bits.proofs.Fields.{packed_fields}
use Rattle.formats.specs.Formats.{format_of, information_bits, line_bytes}
use Rattle.formats.specs.declared.Format.{Format}
use Rattle.std.specs.Prelude.{Ok}
use Rattle.scramble.specs.Sync.{SYNC, fifteen_ones}
use Rattle.wire.specs.Parts.{information_of, line_of, dummy_of}
use Rattle.scramble.proofs.Wire.{length_wire}
use Rattle.wire.proofs.Wire.{line_back}
use Rattle.reader_bits.specs.Lines.{window_bits, is_tail, lines, recorded}
use Rattle.writer.specs.Wire.{on_wire, wire_bytes}
use Rattle.writer.proofs.Ways.{wire_whole, on_wire_below}
use Rattle.demands.specs.RoundTrip.{PlainLine, PlainLines, recording_of}
use Rattle.demands.proofs.Guarded.{some_bits, LeadsTail, Guarded, leading_leads, near_leading, same_near, sync_guarded, dummy_guarded, dummy_short}
use Rattle.demands.proofs.Run.{found_none, run_of, Back, run_found}

-- ---- what is written leads to its tails, at each setting below nine

sent_leads : (setting : ℕ) → setting < 9 → (sent : List ℕ) → Guarded sent → LeadsTail setting (length sent - 64) sent
sent_leads setting below sent g = leading_leads setting sent sent g (near_leading setting sent sent g (same_near setting below sent))

pub sync_leads : (n : ℕ) (f : Format) → format_of n ≡ Ok f → (setting : ℕ) → setting < 9 → LeadsTail setting (length (SYNC f.sync) - 64) (SYNC f.sync)
sync_leads n f e setting below = sent_leads setting below (SYNC f.sync) (sync_guarded n f e)

pub dummy_leads : (n : ℕ) (f : Format) → format_of n ≡ Ok f → (setting : ℕ) → setting < 9
    → LeadsTail setting (length (dummy_of information_bits f.dummy ++ SYNC f.sync) - 64) (dummy_of information_bits f.dummy ++ SYNC f.sync)
dummy_leads n f e setting below =
    sent_leads setting below (dummy_of information_bits f.dummy ++ SYNC f.sync) (dummy_guarded n f e)

-- ---- the recording, in bits

-- the writer's bytes have the bits of one line on the wire
pub wire_bits : (n : ℕ) (f : Format) (l : List ℕ) → format_of n ≡ Ok f → PlainLine l → bits_of (wire_bytes f l) ≡ on_wire f (bits_of l)
unfolding bits_of wire_bytes
wire_bits n f l e p =
    let whole : line_bytes ≤ length l = omega (arith, p.long) in
    let all : take line_bytes l ≡ l = take_all line_bytes l (omega (arith, p.long)) in
    let long : length (on_wire f (bits_of (take line_bytes l))) ≡ f.bytes * 8 = wire_whole n f l e whole in
    packed_fields 8 f.bytes (on_wire f (bits_of (take line_bytes l))) (omega arith) (on_wire_below f _)
    ∙ take_all (f.bytes * 8) (on_wire f (bits_of (take line_bytes l))) (omega arith)
    ∙ ap (λ (x : List ℕ). on_wire f (bits_of x)) all

module _ (n : ℕ) (f : Format) (e : format_of n ≡ Ok f) (setting : ℕ) (below : setting < 9) where
  abbrev dummy : List ℕ
  dummy = dummy_of information_bits f.dummy

  abbrev run : List (List ℕ) → List ℕ
  run ls = run_of window_bits (is_tail setting) some_bits information_bits line_of (SYNC f.sync) dummy information_of ls

  recording_bits : (ls : List (List ℕ)) → PlainLines ls → bits_of (recording_of f ls) ≡ run (map bits_of ls)
  unfolding recording_of PlainLines run_of on_wire
  recording_bits [] p = unfold bits_of packed_of in refl
  recording_bits (l ∷ ls) p =
      bits_append (wire_bytes f l) (recording_of f ls)
      ∙ ap₂ (λ (x y : List ℕ). x ++ y) (wire_bits n f l e p.0) (recording_bits ls p.1)

  -- a line is as long as it should be, and comes back
  comes_back : (ls : List (List ℕ)) → PlainLines ls → Back window_bits (is_tail setting) some_bits information_bits line_of (SYNC f.sync) dummy information_of (map bits_of ls)
  unfolding PlainLines Back information_of
  comes_back [] p = tt
  comes_back (l ∷ ls) p =
      (length_wire 0 fifteen_ones (bits_of l) ∙ length_bits l ∙ ap (λ (k : ℕ). 8 * k) p.0.long, line_back (bits_of l) (bits_below l), comes_back ls p.1)

  -- AMID OTHER BITS
  pub round_trip_amid : (p : ℕ) (first last l : List ℕ) (ls : List (List ℕ)) → LeadsTail setting p (first ++ SYNC f.sync) → lines setting (dummy ++ last) ≡ []
      → PlainLines (l ∷ ls) → lines setting (first ++ (bits_of (recording_of f (l ∷ ls)) ++ last)) ≡ map bits_of (l ∷ ls)
  unfolding lines
  round_trip_amid p first last l ls lead none plain =
      ap (λ (x : List ℕ). lines setting (first ++ (x ++ last))) (recording_bits (l ∷ ls) plain)
      ∙ run_found window_bits (is_tail setting) some_bits information_bits line_of (SYNC f.sync) dummy information_of last (length (dummy ++ SYNC f.sync) - 64) (dummy_leads n f e setting below) none
      p first (bits_of l) (map bits_of ls) lead (comes_back (l ∷ ls) plain)

  -- the dummy alone is too short for a line
  pub dummy_none : lines setting (dummy ++ []) ≡ []
  unfolding lines
  dummy_none =
      ap (lines setting) (append-nil dummy) ∙ found_none window_bits (is_tail setting) some_bits information_bits line_of dummy (dummy_short n f e)

  -- THE ROUND TRIP
  pub round_trip : (ls : List (List ℕ)) → PlainLines ls → recorded setting (recording_of f ls) ≡ map bits_of ls
  unfolding recorded
  round_trip [] plain = none plain
    where
      none : PlainLines [] → lines setting (bits_of (recording_of f [])) ≡ map bits_of []
      none p = unfold recording_of bits_of packed_of lines in found_none window_bits (is_tail setting) some_bits information_bits line_of [] (lit< tt)
  round_trip (l ∷ ls) plain =
      ap (lines setting) (sym (append-nil (bits_of (recording_of f (l ∷ ls)))))
      ∙ round_trip_amid (length (SYNC f.sync) - 64) [] [] l ls (sync_leads n f e setting below) dummy_none plain
