-- WHAT A CONSUMER READS by the calls that C and Rust make: at any moment of a class, from a line's publish to the consumer's own release,
-- the line of that number in the recording, and pixels joined from it are that line's. Assumes nothing.
use mathlib.Core.Bool.{true, false}
use mathlib.Core.List.{List, ◌∷◌}
use mathlib.Core.Path.{◌≡◌, refl, sym, ap, subst, ◌∙◌}
use Prim.Native.Nat.{ℕ, suc, ◌-◌, ◌≤◌}
use lib.ListN.{length, take, drop}
use Rattle.bits.specs.Bits.{in_arow}
use Rattle.formats.specs.Formats.{format_of}
use Rattle.formats.specs.declared.Format.{Format}
use Rattle.std.specs.Prelude.{Result, Ok, Err}
use Rattle.refusals.specs.declared.Refusal.{Refusal}
use Rattle.refusals.specs.Refusals.{answer_number}
use Rattle.refusals.proofs.Numbers.{number_some}
use Rattle.desk.specs.declared.Part.{Part}
use Rattle.desk.specs.Calls.{seen_answer, part_seen}
use Rattle.reader_record.specs.declared.State.{State}
use Rattle.reader_record.specs.Records.{fresh_state}
use Rattle.reader_refusals.specs.Refusing.{largest_setting}
use Rattle.reader.specs.Read.{read_left}
use Rattle.desk_record.specs.declared.Desk.{Desk}
use Rattle.feeding.specs.Area.{slot_at, put_slot, part_of}
use Rattle.feeding.specs.Feeder as feeder
use Rattle.feeding.specs.Feeder.{Feeder}
use Rattle.feeding.specs.OneLine.{OneSlot}
use Rattle.feeding.proofs.Class.{class_seen}
use Rattle.rack_recording.specs.declared.ReaderState.{ReaderState}
use Rattle.rack_recording.specs.Recording.{kept_of, line_left}
use Rattle.rack_desk.specs.declared.LineDesk.{LineDesk}
use Rattle.rack_desk.specs.LineDesk.{desk_handed, part_given, seen_of}
use Rattle.rack.specs.ClassRun as run
use Rattle.rack.specs.ClassRun.{ClassPlayed}
use Rattle.rack.proofs.Calls.{Sides, sides}
use Rattle.rack.proofs.Desks.{fresh_through, fresh_long, take_through, take_long, publish_through, publish_long, release_through, release_long}
use Rattle.rack.proofs.Records.{line_through}

module _ (f setting count : ℕ) (first : List ℕ) (pieces : List (List ℕ)) where
  -- a class across the boundary is one of the calls themselves
  pub record Behind (k : ℕ) (z : ReaderState) (b : LineDesk) (area : List ℕ) (rest : List (List ℕ)) : Type 0 where
    pub state : State
    pub is : z ≡ kept_of state
    pub long : length b.slots ≡ 8
    pub feeds : Feeder f setting count first pieces k state (desk_handed b) area rest

  -- with another desk there
  moved : {k : ℕ} {z : ReaderState} {area : List ℕ} {rest : List (List ℕ)} (s : State) → z ≡ kept_of s → (b : LineDesk) (d : Desk) → length b.slots ≡ 8 → desk_handed b ≡ d
      → Feeder f setting count first pieces k s d area rest → Behind k z b area rest
  moved {k} {z} {area} {rest} s i b d long e r = record { state = s; is = i; long = long; feeds = subst (λ (x : Desk). Feeder f setting count first pieces k s x area rest) (sym e) r }

  -- what a call of the reader leaves there is what it leaves
  left_same : (s : State) (z : ReaderState) (p x : List ℕ) → z ≡ kept_of s → read_left f setting s p x ≡ line_left f setting z p x
  left_same s z p x i = sym (ap (λ (y : ReaderState). line_left f setting y p x) i ∙ line_through f setting s p x)

  pub behind : {k : ℕ} {z : ReaderState} {b : LineDesk} {area : List ℕ} {rest : List (List ℕ)} → ClassPlayed f setting count first pieces k z b area rest → Behind k z b area rest
  behind run.ClassPlayed.start = moved fresh_state refl _ _ (fresh_long count) (fresh_through count) feeder.Feeder.start
  behind (run.ClassPlayed.takes {d = b} {area = area} r) =
      let w = behind r in
      moved w.state w.is _ _ (take_long b w.long (length area)) (take_through b w.long (length area)) (feeder.Feeder.takes w.feeds)
  behind (run.ClassPlayed.offers {k = k} {s = z} {d = b} {area = area} {p = p} {ps = ps} i r u none c) =
      let w = behind r in
      let a : Sides f setting false w.state z p (slot_at i area) = sides f setting false w.state z p (slot_at i area) w.is none c in
      record {
        state = a.after;
        is = a.brings;
        long = w.long;
        feeds = subst (λ (t : ℕ). Feeder f setting count first pieces k a.after (desk_handed b) (put_slot i (line_left f setting z p (slot_at i area)) area) (drop t p ∷ ps)) (sym a.took)
            (subst (λ (x : List ℕ). Feeder f setting count first pieces k a.after (desk_handed b) (put_slot i x area) (drop a.taken p ∷ ps)) (left_same w.state z p (slot_at i area) w.is)
            (feeder.Feeder.offers i w.feeds u a.is));
      }
  behind (run.ClassPlayed.completes {k = k} {s = z} {d = b} {area = area} {p = p} {ps = ps} i r u none c) =
      let w = behind r in
      let a : Sides f setting true w.state z p (slot_at i area) = sides f setting true w.state z p (slot_at i area) w.is none c in
      record {
        state = a.after;
        is = a.brings;
        long = w.long;
        feeds = subst (λ (t : ℕ). Feeder f setting count first pieces (suc k) a.after (desk_handed b) (put_slot i (line_left f setting z p (slot_at i area)) area) (drop t p ∷ ps)) (sym a.took)
            (subst (λ (x : List ℕ). Feeder f setting count first pieces (suc k) a.after (desk_handed b) (put_slot i x area) (drop a.taken p ∷ ps)) (left_same w.state z p (slot_at i area) w.is)
            (feeder.Feeder.completes i w.feeds u a.is));
      }
  behind (run.ClassPlayed.publishes {d = b} {area = area} i n r l) =
      let w = behind r in
      moved w.state w.is _ _ (publish_long b w.long (length area) i n) (publish_through b w.long (length area) i n) (feeder.Feeder.publishes i n w.feeds l)
  behind (run.ClassPlayed.next r) =
      let w = behind r in
      record { state = w.state; is = w.is; long = w.long; feeds = feeder.Feeder.next w.feeds }
  behind (run.ClassPlayed.releases {d = b} {area = area} c i n r) =
      let w = behind r in
      moved w.state w.is _ _ (release_long b w.long (length area) c i n) (release_through b w.long (length area) c i n) (feeder.Feeder.releases c i n w.feeds)

module _ (f : ℕ) (format : Format) (ok : format_of f ≡ Ok format) (setting : ℕ) (small : setting ≤ largest_setting) (count : ℕ) (first : List ℕ) (pieces : List (List ℕ))
    {k : ℕ} {z : ReaderState} {b : LineDesk} {area : List ℕ} {rest : List (List ℕ)} (r : ClassPlayed f setting count first pieces k z b area rest) where
  -- A LINE IS A LINE: the part of the area that `hansobrik_seen` gives consumer c under serial n
  pub class_across : (c i n : ℕ) → (seen_of b (length area) c i n).refused ≡ 0
      → OneSlot f setting n (in_arow pieces) (take ((seen_of b (length area) c i n).to - (seen_of b (length area) c i n).from) (drop (seen_of b (length area) c i n).from area))
  unfolding seen_of
  class_across c i n e =
      given (seen_answer (desk_handed b) (length area) c i n) (class_seen f format ok setting small count first pieces (behind f setting count first pieces r).feeds c i n) e
    where
      given : (a : Result Part Refusal) → (answer_number a ≡ 0 → OneSlot f setting n (in_arow pieces) (part_of (part_seen a) area)) → (part_given a).refused ≡ 0
          → OneSlot f setting n (in_arow pieces) (take ((part_given a).to - (part_given a).from) (drop (part_given a).from area))
      given (Ok p) h z = h refl
      given (Err x) h z = absurd (number_some x z)
