-- THE CALLS ON REPORTS OF LINES: what `with_line` and `together` answer there, and what such a report says. Assumes nothing.
use mathlib.Core.Path.{◌≡◌, refl, sym, ap, ap₂, subst, ◌∙◌}
use mathlib.Core.Logic.{◌↔◌}
use mathlib.Core.List.{List, [], ◌∷◌, ◌++◌}
use Prim.Native.Nat.{ℕ, suc, ◌+◌, ◌≤◌, ◌<◌}
use native.Mathlib.Omega.{arith}
use lib.Dec.{ltb}
use lib.ListN.{length}
use borrow.Author.Tests.{le-ltb}
use Rattle.std.specs.Prelude.{None, Ok}
use Rattle.refusals.specs.Refusals.{answered, refuses, first, short_of}
use Rattle.refusals.proofs.Words.{first_none, when_false}
use Rattle.formats.specs.Formats.{line_bytes, format_refusal, check_start}
use Rattle.bits.specs.Bits.{bits_of}
use Rattle.report_record.specs.declared.Tally.{Tally}
use Rattle.report_record.specs.declared.Channel.{Channel}
use Rattle.report_record.specs.declared.Report.{Report}
use Rattle.report_record.specs.Report.{report_by, report_of, tally_of, pixels_in, channel_of, added, Plain, tally_at, channel_at}
use Rattle.report_record.specs.Possible.{most_lines, record_refusal}
use Rattle.report_record.proofs.Ranges.{absent_exactly}
use Rattle.report_record.proofs.Possible.{record_passes}
use Rattle.report_line.proofs.Passing.{report_passes, adds_up}
use Rattle.report.specs.Calls.{full_refusal, with_line_refusal, with_line_answer, together_refusal, together_answer}
use Rattle.report.proofs.Answers.{full_within}
use Rattle.passes.proofs.Laws.{report_append, report_tally, report_channel, report_lines}

-- ---- EVERY REPORT of at most 100,000 lines of bits passes 12
pub never_12 : (f : ℕ) (ls : List (List ℕ)) → Plain ls → length ls ≤ most_lines → record_refusal (report_of f ls) ≡ 0
unfolding report_of
never_12 f ls p h = record_passes (report_by (check_start f) ls) (report_passes (check_start f) ls p h)

-- ---- ACCEPTED, 5 AND 6 TOGETHER are the lines found, in every sector
pub counts_add_up : (f : ℕ) (ls : List (List ℕ)) (i : ℕ) → i < 12
    → let t = tally_at (report_of f ls) i in t.accepted + t.remainder + t.id ≡ (report_of f ls).lines
unfolding report_of tally_of
counts_add_up f ls i p =
    ap (λ (t : Tally). t.accepted + t.remainder + t.id) (report_tally (check_start f) ls i p) ∙ adds_up (check_start f) (suc i) ls ∙ sym (report_lines (check_start f) ls)

-- ---- ABSENT exactly where a channel has no pixels
pub channel_absent : (f : ℕ) (ls : List (List ℕ)) (i : ℕ) → i < 4
    → let c = channel_at (report_of f ls) i in (c.range ≡ None) ↔ (c.count ≡ 0)
unfolding report_of channel_of
channel_absent f ls i p =
    let e = report_channel (check_start f) ls i p in
    let d = absent_exactly (pixels_in (check_start f) (suc i) ls) in
    let r = ap (λ (c : Channel). c.range) e in
    let n = ap (λ (c : Channel). c.count) e in
    (λ h. n ∙ d.0 (sym r ∙ h), λ h. r ∙ d.1 (sym n ∙ h))

-- ---- a call that is not refused gives what it is asked for
pub answered_done : (k : ℕ) (r : Report) → k ≡ 0 → answered refuses k (Ok r) ≡ Ok r
unfolding answered
answered_done k r e = rw e refl

-- ---- ONE LINE MORE

short_passes : (given needed : ℕ) → needed ≤ given → short_of given needed 2 ≡ 0
unfolding short_of
short_passes given needed h = when_false (ltb given needed) 2 (le-ltb given needed h)

pub report_length : (f : ℕ) (ls : List (List ℕ)) → (report_of f ls).lines ≡ length ls
unfolding report_of
report_length f ls = report_lines (check_start f) ls

pub line_taken : (f : ℕ) (ls : List (List ℕ)) (line : List ℕ) → format_refusal f ≡ 0 → Plain ls → length ls < most_lines → line_bytes ≤ length line
    → with_line_refusal f (report_of f ls) (length line) ≡ 0
unfolding with_line_refusal
line_taken f ls line known p h long =
    let r : Report = report_of f ls in
    let n : r.lines + 1 ≤ most_lines = subst (λ (k : ℕ). k + 1 ≤ most_lines) (sym (report_length f ls)) (omega arith) in
    first_none (format_refusal f) _ known
    ∙ first_none (record_refusal r) _ (never_12 f ls p (omega arith))
    ∙ first_none (full_refusal r.lines 1) _ (sym (full_within r.lines 1 n))
    ∙ short_passes (length line) line_bytes long

-- WITH ONE LINE MORE the report of lines is the report of the lines with that line behind them
pub with_line_report : (f : ℕ) (ls : List (List ℕ)) (line : List ℕ) → format_refusal f ≡ 0 → Plain ls → length ls < most_lines → line_bytes ≤ length line
    → with_line_answer f (report_of f ls) line ≡ Ok (report_of f (ls ++ (bits_of line ∷ [])))
unfolding with_line_answer
with_line_report f ls line known p h long =
    answered_done (with_line_refusal f (report_of f ls) (length line)) (added (report_of f ls) (report_of f (bits_of line ∷ []))) (line_taken f ls line known p h long)
    ∙ ap Ok (sym (report_append f ls (bits_of line ∷ [])))

-- TWO PASSES, one after the other
pub together_report : (f : ℕ) (xs ys : List (List ℕ)) → Plain xs → Plain ys → length xs + length ys ≤ most_lines
    → together_answer (report_of f xs) (report_of f ys) ≡ Ok (report_of f (xs ++ ys))
unfolding together_answer together_refusal
together_report f xs ys p q h =
    let a : Report = report_of f xs in
    let b : Report = report_of f ys in
    let n : a.lines + b.lines ≤ most_lines = subst (λ (k : ℕ). k ≤ most_lines) (sym (ap₂ (λ (x y : ℕ). x + y) (report_length f xs) (report_length f ys))) h in
    answered_done (first (first (record_refusal a) (record_refusal b)) (full_refusal a.lines b.lines)) (added a b)
    (first_none (first (record_refusal a) (record_refusal b)) _ (first_none (record_refusal a) _ (never_12 f xs p (omega arith)) ∙ never_12 f ys q (omega arith)) ∙ sym (full_within a.lines b.lines n))
    ∙ ap Ok (sym (report_append f xs ys))
