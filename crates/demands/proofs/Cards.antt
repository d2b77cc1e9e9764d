-- ONE CARD'S RECORDING READ IN A FORMAT OF THE OTHER, whose check starts from another value: the same lines, and 5 for every sector.
-- Assumes nothing.
use mathlib.Core.List.{List, [], map}
use mathlib.Core.Path.{◌≡◌, ap, ◌∙◌}
use Prim.Native.Nat.{ℕ, ◌≤◌}
use lib.ListN.{length, get_or, take}
use Rattle.bits.specs.Bits.{in_arow}
use Rattle.formats.specs.Formats.{format_of, check_start, line_bytes}
use Rattle.formats.specs.declared.Format.{Format}
use Rattle.std.specs.Prelude.{Ok}
use Rattle.formats.proofs.Which.{is_known}
use Rattle.cuts.specs.Driven.{Driven, line_in}
use Rattle.reader_record.specs.Records.{fresh_state}
use Rattle.reader_refusals.specs.Refusing.{largest_setting}
use Rattle.sector_rounds.proofs.Cards.{other_card, twelve_fives}
use Rattle.demands.specs.RoundTrip.{Recording}
use Rattle.demands.specs.Ones.{OtherCard}
use Rattle.demands.proofs.Demands.{there_and_back}
use Rattle.demands.proofs.Demand2.{recording_is, lines_in_is, held_back}

module _ (n : ℕ) (f : Format) (e : format_of n ≡ Ok f) (m : ℕ) (g : Format) (h : format_of m ≡ Ok g) (differ : check_start n ≡ check_start m → ⊥) (setting : ℕ) (small : setting ≤ largest_setting)
    (lend : ℕ → List ℕ → List ℕ) (long : (k : ℕ) (buf : List ℕ) → 44356 ≤ length buf → 44356 ≤ length (lend k buf)) (first : List ℕ) (room : 44356 ≤ length first)
    {ls : List (List ℕ)} {recording : List ℕ} (r : Recording n ls recording) where
  pub other_cards : (ps : List (List ℕ)) → in_arow ps ≡ recording → (out : List (List ℕ)) → Driven m setting lend 0 fresh_state first ps out → OtherCard n m ls out
  other_cards ps cut out d =
      let is = recording_is n f e r in
      let same : out ≡ map line_in ls = (there_and_back n f e m g h setting small lend long first room (map (take line_bytes) ls) is.0 ps (cut ∙ is.1) out).0 d ∙ lines_in_is ls in
      let stands : (i : ℕ) → get_or out i [] ≡ get_or (map line_in ls) i [] = λ i. ap (λ (x : List (List ℕ)). get_or x i []) same in
      record {
        same = same;
        five = λ i sector w buf holds full at. other_card n m (is_known m g h) differ sector buf (held_back n ls i sector w buf holds full (at ∙ stands i)).accepted;
        twelve = λ i w buf holds full at. twelve_fives n m (is_known m g h) differ buf
            (λ sector low high. (held_back n ls i sector (w sector) buf (holds sector low high) full (at ∙ stands i)).accepted);
      }
