-- TWO PASSES, EACH FROM ITS OWN RECORDING, each cut in its own way: their reports together are that of the lines of the one and then
-- those of the other; and what was written is what is reported. The lines that the plain definition finds are lines of bits, so the report of a recording passes 12. Assumes
-- nothing.
use mathlib.Core.List.{List, [], ◌∷◌, ◌++◌, map, append-nil}
use mathlib.Core.Logic.{◌↔◌}
use mathlib.Core.Path.{◌≡◌, sym, ap, ap₂, subst, ◌∙◌}
use Prim.Native.Nat.{ℕ, ◌+◌, ◌≤◌}
use native.Mathlib.Omega.{arith}
use lib.ListN.{length, replicate, length-replicate, length-map}
use Rattle.formats.specs.Formats.{format_of}
use Rattle.formats.specs.declared.Format.{Format}
use Rattle.std.specs.Prelude.{Ok}
use Rattle.bits.specs.Bits.{bits_of, in_arow, Below}
use Rattle.reader_bits.specs.Lines.{recorded}
use Rattle.reader_record.specs.Records.{fresh_state}
use Rattle.reader_record.specs.declared.State.{State}
use Rattle.reader_refusals.specs.Refusing.{largest_setting}
use Rattle.cuts.specs.Driven as driven
use Rattle.cuts.specs.Driven.{one_buffer, Driven}
use Rattle.cuts.proofs.Demand.{driven_ends}
use Rattle.report_record.specs.declared.Report.{Report}
use Rattle.report_record.specs.Report.{report_of, Plain, empty_report}
use Rattle.report_record.specs.Possible.{most_lines, record_refusal}
use Rattle.report.specs.Calls.{together_answer}
use Rattle.demands.specs.RoundTrip.{PlainLines, recording_of}
use Rattle.demands.proofs.RoundTrip.{round_trip}
use Rattle.passes.specs.Passes.{Reporting}
use Rattle.passes.proofs.OfLines.{never_12, together_report}
use Rattle.passes.proofs.Passes.{line_below, report_of_pass}

plain_nil : Plain []
unfolding Plain
plain_nil = tt

plain_cons : (b : List ℕ) (ls : List (List ℕ)) → Below 2 b → Plain ls → Plain (b ∷ ls)
unfolding Plain
plain_cons b ls h p = (h, p)

-- the lines that a reader hands out
driven_plain : {f setting : ℕ} {lend : ℕ → List ℕ → List ℕ} {k : ℕ} {s : State} {buf : List ℕ} {ps ls : List (List ℕ)} → Driven f setting lend k s buf ps ls → Plain ls
driven_plain driven.Driven.end = plain_nil
driven_plain (driven.Driven.used d) = driven_plain d
driven_plain (driven.Driven.on e d) = driven_plain d
driven_plain (driven.Driven.got {ls = ls} e d) = plain_cons _ ls (line_below _) (driven_plain d)

module _ (f : ℕ) (format : Format) (ok : format_of f ≡ Ok format) (setting : ℕ) (small : setting ≤ largest_setting) where
  -- THE LINES OF A RECORDING are lines of bits
  pub recorded_plain : (bytes : List ℕ) → Plain (recorded setting bytes)
  recorded_plain bytes =
      let buf : List ℕ = replicate 44356 0 in
      let long : 44356 ≤ length buf = omega (arith, length-replicate {A = ℕ} 44356 0) in
      subst (λ (x : List ℕ). Plain (recorded setting x)) (append-nil bytes) (driven_plain (driven_ends f format ok setting small one_buffer (λ k b h. h) buf long (bytes ∷ [])))

  pub recorded_passes : (bytes : List ℕ) → length (recorded setting bytes) ≤ most_lines → record_refusal (report_of f (recorded setting bytes)) ≡ 0
  recorded_passes bytes h = never_12 f (recorded setting bytes) (recorded_plain bytes) h

  -- TWO PASSES, one after the other
  pub two_passes : (lend : ℕ → List ℕ → List ℕ) → ((k : ℕ) (b : List ℕ) → 44356 ≤ length b → 44356 ≤ length (lend k b)) → (buf : List ℕ) → 44356 ≤ length buf
      → (ps qs : List (List ℕ)) → length (recorded setting (in_arow ps)) + length (recorded setting (in_arow qs)) ≤ most_lines → (q r : Report)
      → Reporting f setting lend 0 fresh_state buf ps empty_report q → Reporting f setting lend 0 fresh_state buf qs empty_report r
      → together_answer q r ≡ Ok (report_of f (recorded setting (in_arow ps) ++ recorded setting (in_arow qs)))
  two_passes lend long buf m ps qs few q r one two =
      ap₂ together_answer ((report_of_pass f format ok setting small lend long buf m ps q (omega arith)).0 one) ((report_of_pass f format ok setting small lend long buf m qs r (omega arith)).0 two)
      ∙ together_report f (recorded setting (in_arow ps)) (recorded setting (in_arow qs)) (recorded_plain (in_arow ps)) (recorded_plain (in_arow qs)) few

  -- WHAT WAS WRITTEN IS WHAT IS REPORTED: the recording that the writer makes of plain lines, in any cut, gives the report of those
  -- lines
  pub written_report : (lend : ℕ → List ℕ → List ℕ) → ((k : ℕ) (b : List ℕ) → 44356 ≤ length b → 44356 ≤ length (lend k b)) → (buf : List ℕ) → 44356 ≤ length buf
      → (ls : List (List ℕ)) → PlainLines ls → length ls ≤ most_lines → (ps : List (List ℕ)) → in_arow ps ≡ recording_of format ls
      → (q : Report) → Reporting f setting lend 0 fresh_state buf ps empty_report q ↔ (q ≡ report_of f (map bits_of ls))
  written_report lend long buf m ls plain few ps cut q =
      let same : recorded setting (in_arow ps) ≡ map bits_of ls = ap (recorded setting) cut ∙ round_trip f format ok setting (omega arith) ls plain in
      let told = report_of_pass f format ok setting small lend long buf m ps q (omega (arith, ap length same, length-map ls bits_of)) in
      (λ run. told.0 run ∙ ap (report_of f) same, λ e. told.1 (e ∙ sym (ap (report_of f) same)))
