-- A CLASS: a feeder that keeps its protocol over a recording in pieces, and consumers who call as they like. No byte of the recording is
-- lost and none is read twice, and what consumer c reads under serial n, at any moment from its publish to c's own release, is the
-- n-th line that the plain definition finds in the whole recording, and pixels joined from it are that line's. Assumes nothing.
use mathlib.Core.Bool.{true}
use mathlib.Core.List.{List, [], ◌∷◌, ◌++◌, append_assoc}
use mathlib.Core.Path.{◌≡◌, refl, sym, ap, subst, ◌∙◌}
use Prim.Native.Nat.{ℕ, ◌≤◌}
use lib.ListN.{length, take, drop, take-append-drop}
use Rattle.bits.specs.Bits.{in_arow}
use Rattle.formats.specs.Formats.{format_of}
use Rattle.formats.specs.declared.Format.{Format}
use Rattle.std.specs.Prelude.{Ok}
use Rattle.reader_record.specs.declared.State.{State}
use Rattle.reader_refusals.specs.Refusing.{largest_setting}
use Rattle.desk_record.specs.declared.Desk.{Desk}
use Rattle.desk_record.specs.Slots.{slot_of, held_by}
use Rattle.refusals.specs.Refusals.{answer_number}
use Rattle.desk.specs.Calls.{seen_answer, part_seen}
use Rattle.histories.specs.Histories.{Done, History}
use Rattle.histories.proofs.Steps.{seen_it}
use Rattle.feeding.specs.Area.{slot_at, part_of}
use Rattle.feeding.specs.Fed as run
use Rattle.feeding.specs.Fed.{Fed}
use Rattle.feeding.specs.Feeder as feeder
use Rattle.feeding.specs.Feeder.{Feeder}
use Rattle.feeding.specs.OneLine.{OneSlot}
use Rattle.feeding.proofs.EndToEnd.{run_history, run_past}
use Rattle.feeding.proofs.Pixels.{held_pixels}
use Rattle.feeding.proofs.Seen.{seen_slot}

-- the bytes fed, and what is left of the recording behind them
pub record OfRecording (f setting count : ℕ) (first : List ℕ) (pieces : List (List ℕ)) (k : ℕ) (s : State) (d : Desk) (area : List ℕ) (rest : List (List ℕ)) : Type 0 where
  pub fed : List ℕ
  pub fed_so : Fed f setting count first k s d area fed
  pub all : fed ++ in_arow rest ≡ in_arow pieces

-- what is taken of the piece in front stands behind what was fed
on_piece : (fed p : List ℕ) (ps pieces : List (List ℕ)) (t : ℕ) → fed ++ in_arow (p ∷ ps) ≡ in_arow pieces → (fed ++ take t p) ++ in_arow (drop t p ∷ ps) ≡ in_arow pieces
on_piece fed p ps pieces t e =
    append_assoc fed (take t p) (in_arow (drop t p ∷ ps))
    ∙ ap (λ (x : List ℕ). fed ++ x) (sym (append_assoc (take t p) (drop t p) (in_arow ps)) ∙ ap (λ (x : List ℕ). x ++ in_arow ps) (take-append-drop t p))
    ∙ e

pub of_recording : {f setting count : ℕ} {first : List ℕ} {pieces : List (List ℕ)} {k : ℕ} {s : State} {d : Desk} {area : List ℕ} {rest : List (List ℕ)}
    → Feeder f setting count first pieces k s d area rest → OfRecording f setting count first pieces k s d area rest
of_recording feeder.Feeder.start = record { fed = []; fed_so = run.Fed.start; all = refl }
of_recording (feeder.Feeder.takes r) = let w = of_recording r in record { fed = w.fed; fed_so = run.Fed.takes w.fed_so; all = w.all }
of_recording {pieces = pieces} (feeder.Feeder.offers {p = p} {ps = ps} {t = t} i r u e) =
    let w = of_recording r in
    record { fed = w.fed ++ take t p; fed_so = run.Fed.reads i p w.fed_so u e; all = on_piece w.fed p ps pieces t w.all }
of_recording {pieces = pieces} (feeder.Feeder.completes {p = p} {ps = ps} {t = t} i r u e) =
    let w = of_recording r in
    record { fed = w.fed ++ take t p; fed_so = run.Fed.gets i p w.fed_so u e; all = on_piece w.fed p ps pieces t w.all }
of_recording (feeder.Feeder.publishes i n r l) = let w = of_recording r in record { fed = w.fed; fed_so = run.Fed.publishes i n w.fed_so l; all = w.all }
of_recording (feeder.Feeder.next r) = let w = of_recording r in record { fed = w.fed; fed_so = w.fed_so; all = w.all }
of_recording (feeder.Feeder.releases c i n r) = let w = of_recording r in record { fed = w.fed; fed_so = run.Fed.releases c i n w.fed_so; all = w.all }

module _ (f : ℕ) (format : Format) (ok : format_of f ≡ Ok format) (setting : ℕ) (small : setting ≤ largest_setting) (count : ℕ) (first : List ℕ) (pieces : List (List ℕ))
    {k : ℕ} {s : State} {d : Desk} {area : List ℕ} {rest : List (List ℕ)} (r : Feeder f setting count first pieces k s d area rest) where
  -- A LINE IS A LINE: what consumer c holds under serial n
  pub class_line : (c i n : ℕ) → held_by c n (slot_of d i) ≡ true → OneSlot f setting n (in_arow pieces) (slot_at i area)
  class_line c i n e =
      let w = of_recording r in
      subst (λ (x : List ℕ). OneSlot f setting n x (slot_at i area)) w.all (held_pixels f format ok setting small count first w.fed_so c i n e (in_arow rest))

  -- and so what it reads where `seen` points
  pub class_seen : (c i n : ℕ) → answer_number (seen_answer d (length area) c i n) ≡ 0 → OneSlot f setting n (in_arow pieces) (part_of (part_seen (seen_answer d (length area) c i n)) area)
  class_seen c i n e =
      subst (λ (x : List ℕ). OneSlot f setting n (in_arow pieces) x) (sym (seen_slot d c i n area e)) (class_line c i n (seen_it d (length area) c i n e).held)

  -- the desk is one after some history, so all that is said of histories holds of it
  pub class_history : List Done
  class_history = run_history f format ok setting small count first (of_recording r).fed_so

  pub class_past : History count d class_history
  unfolding class_history
  class_past = run_past f format ok setting small count first (of_recording r).fed_so
