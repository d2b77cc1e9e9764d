-- THE REPORT OF A RECORDING by the calls that C and Rust make: in any cut, that of the lines which the plain definition finds. Assumes
-- nothing.
use mathlib.Core.Bool.{true, false}
use mathlib.Core.List.{List, ◌∷◌}
use mathlib.Core.Logic.{◌↔◌}
use mathlib.Core.Path.{◌≡◌, refl, sym, ap, subst, ◌∙◌}
use Prim.Native.Nat.{ℕ, suc, ◌≤◌}
use lib.ListN.{length, drop}
use Rattle.formats.specs.Formats.{format_of}
use Rattle.formats.specs.declared.Format.{Format}
use Rattle.std.specs.Prelude.{Ok}
use Rattle.bits.specs.Bits.{in_arow}
use Rattle.reader_bits.specs.Lines.{recorded}
use Rattle.reader_record.specs.declared.State.{State}
use Rattle.reader_record.specs.Records.{fresh_state}
use Rattle.reader.specs.Read.{read_left}
use Rattle.reader_refusals.specs.Refusing.{largest_setting}
use Rattle.cuts.specs.Driven.{lent_for}
use Rattle.report_record.specs.declared.Report.{Report}
use Rattle.report_record.specs.Report.{empty_report}
use Rattle.report.specs.Calls.{with_line_answer, report_after}
use Rattle.passes.specs.Passes as passes
use Rattle.passes.specs.Passes.{Reporting}
use Rattle.passes.proofs.Laws.{Shaped, empty_shaped}
use Rattle.passes.proofs.Passes.{so_far, report_of_recording}
use Rattle.rack_recording.specs.declared.ReaderState.{ReaderState}
use Rattle.rack_recording.specs.declared.ReadAnswer.{ReadAnswer}
use Rattle.rack_recording.specs.Recording.{kept_of, line_left}
use Rattle.rack_report.specs.declared.PassReport.{PassReport}
use Rattle.rack_report.specs.PassReport.{report_given, with_line_of}
use Rattle.rack.specs.Run.{lent_at}
use Rattle.rack.specs.ReportRun as run
use Rattle.rack.specs.ReportRun.{ReportPlayed}
use Rattle.rack.proofs.Calls.{Both, both, given_by, left_same}
use Rattle.rack.proofs.Reports.{after_line, line_shaped}

module _ (f setting : ℕ) (lend : ℕ → List ℕ → List ℕ) where
  abbrev Rest : ℕ → List ℕ → List (List ℕ) → PassReport → PassReport → ReadAnswer → List ℕ → Type 0
  Rest k p ps r q a b = ReportPlayed f setting lend (suc k) a.state b (drop a.taken p ∷ ps) r q

  -- a run of the calls themselves is one across the boundary
  from_run : {k : ℕ} {s : State} {buf : List ℕ} {ps : List (List ℕ)} {r q : Report} → Reporting f setting lend k s buf ps r q → Shaped r
      → ReportPlayed f setting lend k (kept_of s) buf ps (report_given r) (report_given q)
  from_run passes.Reporting.end h = run.ReportPlayed.end
  from_run (passes.Reporting.used d) h = run.ReportPlayed.used (from_run d h)
  from_run {k} {s} {buf} (passes.Reporting.on {p = p} {ps = ps} {r = r} {q = q} {t = t} {s' = s'} e d) h =
      let a = given_by f setting lend false k s (kept_of s) p buf t s' refl e in
      let b = left_same f setting lend k s (kept_of s) p buf refl in
      run.ReportPlayed.on (ap (λ (x : ReadAnswer). x.refused) a) (ap (λ (x : ReadAnswer). x.complete) a)
      (subst (λ (x : ReadAnswer). Rest k p ps (report_given r) (report_given q) x (line_left f setting (kept_of s) p (lent_at lend k (kept_of s) buf))) (sym a)
      (subst (λ (x : List ℕ). ReportPlayed f setting lend (suc k) (kept_of s') x (drop t p ∷ ps) (report_given r) (report_given q)) (sym b) (from_run d h)))
  from_run {k} {s} {buf} (passes.Reporting.got {p = p} {ps = ps} {r = r} {q = q} {t = t} {s' = s'} e d) h =
      let a = given_by f setting lend true k s (kept_of s) p buf t s' refl e in
      let b = left_same f setting lend k s (kept_of s) p buf refl in
      let left : List ℕ = read_left f setting s p (lent_for lend k s buf) in
      run.ReportPlayed.got (ap (λ (x : ReadAnswer). x.refused) a) (ap (λ (x : ReadAnswer). x.complete) a)
      (subst (λ (x : ReadAnswer). Rest k p ps (with_line_of f (report_given r) (line_left f setting (kept_of s) p (lent_at lend k (kept_of s) buf))).report (report_given q) x (line_left f setting (kept_of s) p (lent_at lend k (kept_of s) buf))) (sym a)
      (subst (λ (x : List ℕ). ReportPlayed f setting lend (suc k) (kept_of s') x (drop t p ∷ ps) (with_line_of f (report_given r) x).report (report_given q)) (sym b)
      (subst (λ (x : PassReport). ReportPlayed f setting lend (suc k) (kept_of s') left (drop t p ∷ ps) x (report_given q)) (sym (after_line f r left h)) (from_run d (line_shaped f r left h)))))

  -- and the other way round
  record Behind (k : ℕ) (s : State) (buf : List ℕ) (ps : List (List ℕ)) (r : Report) (q : PassReport) : Type 0 where
    last : Report
    run : Reporting f setting lend k s buf ps r last
    is : q ≡ report_given last

  to_run : {k : ℕ} {z : ReaderState} {buf : List ℕ} {ps : List (List ℕ)} {a q : PassReport} → ReportPlayed f setting lend k z buf ps a q
      → (s : State) → z ≡ kept_of s → (r : Report) → Shaped r → a ≡ report_given r → Behind k s buf ps r q
  to_run run.ReportPlayed.end s i r h e = record { last = r; run = passes.Reporting.end; is = e }
  to_run (run.ReportPlayed.used d) s i r h e =
      let x = to_run d s i r h e in
      record { last = x.last; run = passes.Reporting.used x.run; is = x.is }
  to_run {k} {z} {buf} (run.ReportPlayed.on {p = p} {ps = ps} none c d) s i r h e =
      let b : Both f setting lend false k s z p buf = both f setting lend false k s z p buf i none c in
      let x = to_run d b.after b.brings r h e in
      record {
        last = x.last;
        run = passes.Reporting.on b.is
            (subst (λ (y : List ℕ). Reporting f setting lend (suc k) b.after y (drop b.taken p ∷ ps) r x.last) (left_same f setting lend k s z p buf i)
            (subst (λ (t : ℕ). Reporting f setting lend (suc k) b.after (line_left f setting z p (lent_at lend k z buf)) (drop t p ∷ ps) r x.last) b.took x.run));
        is = x.is;
      }
  to_run {k} {z} {buf} (run.ReportPlayed.got {p = p} {ps = ps} none c d) s i r h e =
      let b : Both f setting lend true k s z p buf = both f setting lend true k s z p buf i none c in
      let left : List ℕ = line_left f setting z p (lent_at lend k z buf) in
      let next : Report = report_after r (with_line_answer f r left) in
      let x = to_run d b.after b.brings next (line_shaped f r left h) (ap (λ (y : PassReport). (with_line_of f y left).report) e ∙ after_line f r left h) in
      record {
        last = x.last;
        run = passes.Reporting.got b.is
            (subst (λ (y : List ℕ). Reporting f setting lend (suc k) b.after y (drop b.taken p ∷ ps) (report_after r (with_line_answer f r y)) x.last) (left_same f setting lend k s z p buf i)
            (subst (λ (t : ℕ). Reporting f setting lend (suc k) b.after left (drop t p ∷ ps) next x.last) b.took x.run));
        is = x.is;
      }

-- THE REPORT OF ANY CUT RECORDING across the boundary: a caller may end with it, and with no other
pub report_across : (f : ℕ) (format : Format) → format_of f ≡ Ok format → (setting : ℕ) → setting ≤ largest_setting
    → (lend : ℕ → List ℕ → List ℕ) → ((k : ℕ) (b : List ℕ) → 44356 ≤ length b → 44356 ≤ length (lend k b)) → (buf : List ℕ) → 44356 ≤ length buf
    → (ps : List (List ℕ)) (q : PassReport)
    → ReportPlayed f setting lend 0 (kept_of fresh_state) buf ps (report_given empty_report) q ↔ (q ≡ report_given (so_far f (recorded setting (in_arow ps))))
report_across f format ok setting small lend long buf m ps q =
    let own = report_of_recording f format ok setting small lend long buf m ps in (
      λ d. let x = to_run f setting lend d fresh_state refl empty_report empty_shaped refl in x.is ∙ ap report_given ((own x.last).0 x.run),
      λ e. subst (λ (y : PassReport). ReportPlayed f setting lend 0 (kept_of fresh_state) buf ps (report_given empty_report) y) (sym e)
          (from_run f setting lend ((own (so_far f (recorded setting (in_arow ps)))).1 refl) empty_shaped),
    )
