-- ONE CARD'S RECORDING READ IN A FORMAT OF THE OTHER, with the reader's calls that C and Rust make. Assumes nothing.
use mathlib.Core.List.{List}
use mathlib.Core.Path.{◌≡◌, refl}
use Prim.Native.Nat.{ℕ, ◌≤◌}
use lib.ListN.{length}
use Rattle.bits.specs.Bits.{in_arow}
use Rattle.formats.specs.Formats.{format_of, check_start}
use Rattle.formats.specs.declared.Format.{Format}
use Rattle.std.specs.Prelude.{Ok}
use Rattle.reader_record.specs.Records.{fresh_state}
use Rattle.reader_refusals.specs.Refusing.{largest_setting}
use Rattle.demands.specs.RoundTrip.{Recording}
use Rattle.demands.specs.Ones.{OtherCard}
use Rattle.demands.proofs.Cards.{other_cards}
use Rattle.rack_recording.specs.Recording.{kept_of}
use Rattle.rack.specs.Run.{Played}
use Rattle.rack.proofs.Played.{to_driven}

pub other_cards_across : (n : ℕ) (f : Format) → format_of n ≡ Ok f → (m : ℕ) (g : Format) → format_of m ≡ Ok g → (check_start n ≡ check_start m → ⊥) → (setting : ℕ) → setting ≤ largest_setting
    → (lend : ℕ → List ℕ → List ℕ) → ((k : ℕ) (buf : List ℕ) → 44356 ≤ length buf → 44356 ≤ length (lend k buf)) → (first : List ℕ) → 44356 ≤ length first
    → {ls : List (List ℕ)} {recording : List ℕ} → Recording n ls recording
    → (ps : List (List ℕ)) → in_arow ps ≡ recording → (out : List (List ℕ)) → Played m setting lend 0 (kept_of fresh_state) first ps out → OtherCard n m ls out
other_cards_across n f e m g h differ setting small lend long first room r ps cut out d =
    other_cards n f e m g h differ setting small lend long first room r ps cut out (to_driven m setting lend d fresh_state refl)
