-- DEMAND 2 ACROSS THE BOUNDARY: the way round with the reader's calls that C and Rust make. Those that put, write and read a line have
-- the calls' own contracts there. Assumes nothing.
use mathlib.Core.List.{List, [], ◌++◌}
use mathlib.Core.Path.{◌≡◌, refl}
use Prim.Native.Nat.{ℕ, suc, ◌≤◌}
use lib.ListN.{length, get_or}
use Rattle.bits.specs.Bits.{in_arow}
use Rattle.formats.specs.Formats.{format_of}
use Rattle.formats.specs.declared.Format.{Format}
use Rattle.std.specs.Prelude.{Ok}
use Rattle.reader_record.specs.Records.{fresh_state}
use Rattle.reader_refusals.specs.Refusing.{largest_setting}
use Rattle.demands.specs.RoundTrip.{Recording, ComeBack}
use Rattle.demands.proofs.Demand2.{demand_2, demand_2_standing}
use Rattle.sector_rounds.specs.Puts.{Put, Holds, ComesBack}
use Rattle.rack_recording.specs.declared.ReaderState.{ReaderState}
use Rattle.rack_recording.specs.Recording.{kept_of}
use Rattle.rack.specs.Run.{Played, MomentAt, StandingAt}
use Rattle.rack.proofs.Moments.{through}
use Rattle.rack.proofs.Played.{to_driven}

module _ (n : ℕ) (f : Format) (e : format_of n ≡ Ok f) (setting : ℕ) (small : setting ≤ largest_setting)
    (lend : ℕ → List ℕ → List ℕ) (long : (k : ℕ) (buf : List ℕ) → 44356 ≤ length buf → 44356 ≤ length (lend k buf)) (first : List ℕ) (room : 44356 ≤ length first)
    {ls : List (List ℕ)} {recording : List ℕ} (r : Recording n ls recording) where
  pub demand_2_across : (ps : List (List ℕ)) → in_arow ps ≡ recording → (out : List (List ℕ)) → Played n setting lend 0 (kept_of fresh_state) first ps out → ComeBack n ls out
  demand_2_across ps cut out d = demand_2 n f e setting small lend long first room r ps cut out (to_driven n setting lend d fresh_state refl)

  -- and already while it is read
  pub demand_2_standing_across : {k : ℕ} {s : ReaderState} {buf bytes : List ℕ} {out : List (List ℕ)} (m : MomentAt n setting lend first k s buf bytes out) → StandingAt m
      → (rest : List ℕ) → bytes ++ rest ≡ recording → (i : ℕ) → length out ≡ suc i → (sector : ℕ) (w : Put) → Holds n sector w (get_or ls i []) → ComesBack n sector w buf
  demand_2_standing_across m whole = let t = through n setting lend first m in demand_2_standing n f e setting small lend long first room r t.met.moment (t.met.stands whole)
