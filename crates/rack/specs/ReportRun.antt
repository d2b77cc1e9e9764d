-- A CALLER THAT KEEPS A REPORT on the other side of the boundary: as the caller of demand 3 there, and each line that it is handed goes to
-- `hansobrik_with_line` as it stands in the buffer. The record goes on as that answer has it. Assumes nothing.
use Rattle.std.specs.Prelude.{true, false, List, [], ◌∷◌, ◌≡◌, ℕ, suc, drop}
use Rattle.rack_recording.specs.declared.ReaderState.{ReaderState}
use Rattle.rack_recording.specs.Recording.{read_of, line_left}
use Rattle.rack_report.specs.declared.PassReport.{PassReport}
use Rattle.rack_report.specs.PassReport.{with_line_of}
use Rattle.rack.specs.Run.{lent_at}

-- the calls of format f at one setting from call k on, with the reader's record, a buffer, the pieces to offer and a report; and the
-- report at the end. No call of the reader is refused
pub data ReportPlayed (f setting : ℕ) (lend : ℕ → List ℕ → List ℕ) : ℕ → ReaderState → List ℕ → List (List ℕ) → PassReport → PassReport → Type 0 where
  end : {k : ℕ} {s : ReaderState} {buf : List ℕ} {r : PassReport} → ReportPlayed f setting lend k s buf [] r r
  used : {k : ℕ} {s : ReaderState} {buf : List ℕ} {ps : List (List ℕ)} {r q : PassReport} → ReportPlayed f setting lend k s buf ps r q → ReportPlayed f setting lend k s buf ([] ∷ ps) r q
  on : {k : ℕ} {s : ReaderState} {buf p : List ℕ} {ps : List (List ℕ)} {r q : PassReport}
      → (read_of f setting s p (lent_at lend k s buf)).refused ≡ 0
      → (read_of f setting s p (lent_at lend k s buf)).complete ≡ false
      → ReportPlayed f setting lend (suc k) (read_of f setting s p (lent_at lend k s buf)).state (line_left f setting s p (lent_at lend k s buf)) (drop (read_of f setting s p (lent_at lend k s buf)).taken p ∷ ps) r q
      → ReportPlayed f setting lend k s buf (p ∷ ps) r q
  got : {k : ℕ} {s : ReaderState} {buf p : List ℕ} {ps : List (List ℕ)} {r q : PassReport}
      → (read_of f setting s p (lent_at lend k s buf)).refused ≡ 0
      → (read_of f setting s p (lent_at lend k s buf)).complete ≡ true
      → ReportPlayed f setting lend (suc k) (read_of f setting s p (lent_at lend k s buf)).state (line_left f setting s p (lent_at lend k s buf)) (drop (read_of f setting s p (lent_at lend k s buf)).taken p ∷ ps)
      (with_line_of f r (line_left f setting s p (lent_at lend k s buf))).report q
      → ReportPlayed f setting lend k s buf (p ∷ ps) r q
