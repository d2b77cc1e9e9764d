-- `report::with_line_or_refused` meets its contract: what passed the tests is possible, and so is the report of one line. Assumes nothing.
use mathlib.Core.Path.{◌≡◌, sym, ap, subst, ◌∙◌}
use mathlib.Core.Bool.{true}
use mathlib.Core.List.{[], ◌∷◌}
use Prim.Native.Nat.{ℕ}
use native.Mathlib.Omega.{arith}
use Rattle.std.specs.Prelude.{Ok}
use Rattle.refusals.specs.Refusals.{answered}
use Rattle.bits.specs.Bits.{bits_of}
use Rattle.bits.proofs.Bytes.{bits_below}
use Rattle.report_record.specs.declared.Report.{Report}
use Rattle.report_record.specs.Report.{report_by, report_of, added, Plain}
use Rattle.report_record.specs.Possible.{possible_report}
use Rattle.report.specs.Calls.{with_line_answer}
use Rattle.report_line.proofs.Passing.{report_passes}
use Rattle.report.proofs.Answers.{line_served}
use Rattle.report.proofs.with_line_or_refused.Goals as goal

pub line_report-requires : goal.line_report-requires
line_report-requires c = (line_served _ _ _ (sym c.in_ok-with_line_refusal.ensures)).long

pub add-requires : goal.add-requires
unfolding Plain
add-requires c =
    let a = c.args in
    let b = bits_of a.line.now in (
      (line_served _ _ _ (sym c.in_ok-with_line_refusal.ensures)).one,
      subst (λ (x : Report). possible_report x ≡ true) (sym c.line_report.ensures) (report_passes _ (b ∷ []) (bits_below a.line.now, tt) (omega arith)),
    )

pub returns : goal.returns
unfolding with_line_answer report_of answered
returns c =
    let a = c.args in
    rw (sym c.in_ok-with_line_refusal.ensures) (ap Ok (c.add.ensures ∙ ap (added a.report) (c.line_report.ensures ∙ ap (λ (s : ℕ). report_by s (bits_of a.line.now ∷ [])) c.check_start.ensures)))
