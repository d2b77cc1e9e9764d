-- A CALLER THAT KEEPS A REPORT of a recording: as the caller of demand 3, and each line that the reader hands out goes to `with_line` as
-- it stands in the buffer right after the call that says so. The record goes on as that answer has it, refused or not. Assumes
-- nothing.
use Rattle.std.specs.Prelude.{List, [], ◌∷◌, ◌≡◌, ℕ, suc, drop, Ok}
use Rattle.cuts.specs.Driven.{lent_for}
use Rattle.reader.specs.Read.{read_answer, read_left}
use Rattle.reader_line.specs.declared.Reading.TheVariants.{More, Line}
use Rattle.reader_record.specs.declared.State.{State}
use Rattle.report_record.specs.declared.Report.{Report}
use Rattle.report.specs.Calls.{with_line_answer, report_after}

-- the calls of format f at one setting from call k on, with a record, a buffer, the pieces to offer and a report; and the report at the
-- end
pub data Reporting (f setting : ℕ) (lend : ℕ → List ℕ → List ℕ) : ℕ → State → List ℕ → List (List ℕ) → Report → Report → Type 0 where
  end : {k : ℕ} {s : State} {buf : List ℕ} {r : Report} → Reporting f setting lend k s buf [] r r
  used : {k : ℕ} {s : State} {buf : List ℕ} {ps : List (List ℕ)} {r q : Report} → Reporting f setting lend k s buf ps r q → Reporting f setting lend k s buf ([] ∷ ps) r q
  on : {k : ℕ} {s : State} {buf p : List ℕ} {ps : List (List ℕ)} {r q : Report} {t : ℕ} {s' : State}
      → read_answer f setting s p (lent_for lend k s buf) ≡ Ok (More t s')
      → Reporting f setting lend (suc k) s' (read_left f setting s p (lent_for lend k s buf)) (drop t p ∷ ps) r q
      → Reporting f setting lend k s buf (p ∷ ps) r q
  got : {k : ℕ} {s : State} {buf p : List ℕ} {ps : List (List ℕ)} {r q : Report} {t : ℕ} {s' : State}
      → read_answer f setting s p (lent_for lend k s buf) ≡ Ok (Line t s')
      → Reporting f setting lend (suc k) s' (read_left f setting s p (lent_for lend k s buf)) (drop t p ∷ ps)
      (report_after r (with_line_answer f r (read_left f setting s p (lent_for lend k s buf)))) q
      → Reporting f setting lend k s buf (p ∷ ps) r q
