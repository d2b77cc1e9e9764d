-- THE REPORT OF A RECORDING: however it is cut, and whatever full-size buffers the caller lends between lines, the report that it ends
-- with is that of the lines that the plain definition finds in the uncut recording; of its first 100,000 where it has more, for each
-- line after them is refused with 15 and changes nothing. Assumes nothing.
use mathlib.Core.Bool.{Bool, true, false, cond}
use mathlib.Core.List.{List, [], ◌∷◌, ◌++◌, append_assoc, append-nil}
use mathlib.Core.Logic.{◌↔◌}
use mathlib.Core.Path.{◌≡◌, refl, sym, ap, subst, ◌∙◌}
use Prim.Native.Nat.{ℕ, zero, suc, ◌≤◌, ◌<◌}
use native.Mathlib.Omega.{arith}
use borrow.Author.Tests.{ltb-true, ltb-false}
use lib.Dec.{ltb}
use lib.ListN.{length, take, drop, length-append}
use lib.Seq.{take_all, take-append-le, length-take-le}
use Rattle.refusals.proofs.Answered.{answered_value}
use Rattle.refusals.proofs.Words.{kept_some}
use Rattle.formats.specs.Formats.{format_of, line_bytes, format_refusal, check_start}
use Rattle.formats.specs.declared.Format.{Format}
use Rattle.std.specs.Prelude.{Ok}
use Rattle.formats.proofs.Which.{is_known}
use Rattle.bits.specs.Bits.{bits_of, in_arow, Below}
use Rattle.bits.proofs.Bytes.{bits_below}
use Rattle.reader_bits.specs.Lines.{recorded}
use Rattle.reader_record.specs.Records.{fresh_state}
use Rattle.reader_record.specs.declared.State.{State}
use Rattle.reader.specs.Read.{read_left}
use Rattle.reader_refusals.specs.Refusing.{largest_setting}
use Rattle.cuts.specs.Driven as driven
use Rattle.cuts.specs.Driven.{lent_for, line_in, Driven}
use Rattle.cuts.proofs.Demand.{demand_3}
use Rattle.cuts.proofs.Sized.{read_length}
use Rattle.report_record.specs.declared.Report.{Report}
use Rattle.report_record.specs.Report.{report_of, report_by, added, Plain, empty_report}
use Rattle.report_record.specs.Possible.{most_lines}
use Rattle.report_line.proofs.Passing.{report_passes}
use Rattle.report.specs.Calls.{with_line_refusal, with_line_answer, report_after}
use Rattle.demands.proofs.Fifteen.{exactly_15}
use Rattle.passes.specs.Passes as passes
use Rattle.passes.specs.Passes.{Reporting}
use Rattle.passes.proofs.Laws.{report_append, report_none}
use Rattle.passes.proofs.OfLines.{report_length, with_line_report}
use Rattle.passes.proofs.InBuffer.{report_buffer}

-- ---- lines of bits

plain_more : (xs : List (List ℕ)) (b : List ℕ) → Plain xs → Below 2 b → Plain (xs ++ (b ∷ []))
unfolding Plain
plain_more [] b p h = (h, tt)
plain_more (x ∷ xs) b p h = (p.0, plain_more xs b p.1 h)

plain_take : (n : ℕ) (xs : List (List ℕ)) → Plain xs → Plain (take n xs)
unfolding Plain
plain_take zero xs p = tt
plain_take (suc n) [] p = tt
plain_take (suc n) (x ∷ xs) p = (p.0, plain_take n xs p.1)

plain_nil : Plain []
unfolding Plain
plain_nil = tt

pub line_below : (b : List ℕ) → Below 2 (line_in b)
unfolding line_in
line_below b = bits_below (take line_bytes b)

-- ---- one line more, whatever came before

-- the report of the lines so far, as far as it takes them
abbrev pub so_far : ℕ → List (List ℕ) → Report
so_far f ls = report_of f (take most_lines ls)

pub refused_15 : (f : ℕ) → format_refusal f ≡ 0 → (ls : List (List ℕ)) → Plain ls → length ls ≡ most_lines → (given : ℕ) → with_line_refusal f (report_of f ls) given ≡ 15
unfolding report_of
refused_15 f known ls plain full given =
    (exactly_15 f (report_by (check_start f) ls) given).1
    (known, report_passes (check_start f) ls plain (omega arith), omega (arith, report_length f ls))

module _ (f : ℕ) (known : format_refusal f ≡ 0) (ls : List (List ℕ)) (plain : Plain ls) (b : List ℕ) (long : line_bytes ≤ length b) where
  room : length ls < most_lines → report_after (so_far f ls) (with_line_answer f (so_far f ls) b) ≡ so_far f (ls ++ (line_in b ∷ []))
  room h =
      ap (λ (l : List (List ℕ)). report_after (report_of f l) (with_line_answer f (report_of f l) b)) (take_all most_lines ls (omega arith))
      ∙ ap (report_after (report_of f ls)) (with_line_report f ls b known plain h long)
      ∙ report_append f ls (bits_of b ∷ [])
      ∙ ap (added (report_of f ls)) (report_buffer f b long)
      ∙ sym (report_append f ls (line_in b ∷ []))
      ∙ ap (report_of f) (sym (take_all most_lines (ls ++ (line_in b ∷ [])) (omega (arith, length-append ls (line_in b ∷ [])))))

  full : most_lines ≤ length ls → report_after (so_far f ls) (with_line_answer f (so_far f ls) b) ≡ so_far f (ls ++ (line_in b ∷ []))
  unfolding with_line_answer
  full h =
      let r : Report = so_far f ls in
      let e = refused_15 f known (take most_lines ls) (plain_take most_lines ls plain) (length-take-le most_lines ls h) (length b) in
      answered_value (with_line_refusal f r (length b)) r (added r (report_of f (bits_of b ∷ [])))
      ∙ kept_some (with_line_refusal f r (length b)) r (added r (report_of f (bits_of b ∷ []))) (λ z. let w = sym e ∙ z in omega arith)
      ∙ ap (report_of f) (sym (take-append-le most_lines ls (line_in b ∷ []) h))

  fed : report_after (so_far f ls) (with_line_answer f (so_far f ls) b) ≡ so_far f (ls ++ (line_in b ∷ []))
  fed = by (ltb (length ls) most_lines) refl
    where
      by : (t : Bool) → ltb (length ls) most_lines ≡ t → report_after (so_far f ls) (with_line_answer f (so_far f ls) b) ≡ so_far f (ls ++ (line_in b ∷ []))
      by true e = room (ltb-true (length ls) most_lines e)
      by false e = full (ltb-false (length ls) most_lines e)

-- ---- the lines of such a run, and its report

module _ (f : ℕ) (format : Format) (ok : format_of f ≡ Ok format) (setting : ℕ) (small : setting ≤ largest_setting)
    (lend : ℕ → List ℕ → List ℕ) (long : (k : ℕ) (b : List ℕ) → 44356 ≤ length b → 44356 ≤ length (lend k b)) where
  lent_long : (k : ℕ) (s : State) (buf : List ℕ) → 44356 ≤ length buf → 44356 ≤ length (lent_for lend k s buf)
  lent_long k s buf m = by s.in_line
    where
      by : (t : Bool) → 44356 ≤ length (cond t buf (lend k buf))
      by true = m
      by false = long k buf m

  read_long : (k : ℕ) (s : State) (p buf : List ℕ) → 44356 ≤ length buf → 44356 ≤ length (read_left f setting s p (lent_for lend k s buf))
  read_long k s p buf m = subst (λ (n : ℕ). 44356 ≤ n) (sym (read_length f setting s p (lent_for lend k s buf))) (lent_long k s buf m)

  record Run (k : ℕ) (s : State) (buf : List ℕ) (ps : List (List ℕ)) (before : List (List ℕ)) (q : Report) : Type 0 where
    ls : List (List ℕ)
    handed : Driven f setting lend k s buf ps ls
    is : q ≡ so_far f (before ++ ls)

  run_of : {k : ℕ} {s : State} {buf : List ℕ} {ps : List (List ℕ)} {r q : Report} → Reporting f setting lend k s buf ps r q
      → 44356 ≤ length buf → (before : List (List ℕ)) → Plain before → r ≡ so_far f before → Run k s buf ps before q
  run_of passes.Reporting.end m before h e = record { ls = []; handed = driven.Driven.end; is = e ∙ ap (so_far f) (sym (append-nil before)) }
  run_of (passes.Reporting.used d) m before h e =
      let x = run_of d m before h e in
      record { ls = x.ls; handed = driven.Driven.used x.handed; is = x.is }
  run_of {k} {s} {buf} (passes.Reporting.on {p = p} a d) m before h e =
      let x = run_of d (read_long k s p buf m) before h e in
      record { ls = x.ls; handed = driven.Driven.on a x.handed; is = x.is }
  run_of {k} {s} {buf} (passes.Reporting.got {p = p} a d) m before h e =
      let b : List ℕ = read_left f setting s p (lent_for lend k s buf) in
      let room = read_long k s p buf m in
      let next = ap (λ (z : Report). report_after z (with_line_answer f z b)) e ∙ fed f (is_known f format ok) before h b room in
      let x = run_of d room (before ++ (line_in b ∷ [])) (plain_more before (line_in b) h (line_below b)) next in
      record {
        ls = line_in b ∷ x.ls;
        handed = driven.Driven.got a x.handed;
        is = x.is ∙ ap (so_far f) (append_assoc before (line_in b ∷ []) x.ls);
      }

  runs : {k : ℕ} {s : State} {buf : List ℕ} {ps ls : List (List ℕ)} → Driven f setting lend k s buf ps ls
      → 44356 ≤ length buf → (before : List (List ℕ)) → Plain before → Reporting f setting lend k s buf ps (so_far f before) (so_far f (before ++ ls))
  runs {k} {s} {buf} driven.Driven.end m before h =
      subst (λ (l : List (List ℕ)). Reporting f setting lend k s buf [] (so_far f before) (so_far f l)) (sym (append-nil before)) passes.Reporting.end
  runs (driven.Driven.used d) m before h = passes.Reporting.used (runs d m before h)
  runs {k} {s} {buf} (driven.Driven.on {p = p} a d) m before h = passes.Reporting.on a (runs d (read_long k s p buf m) before h)
  runs {k} {s} {buf} (driven.Driven.got {p = p} {ps = ps} {ls = ls} {t = t} {s' = s'} a d) m before h =
      let b : List ℕ = read_left f setting s p (lent_for lend k s buf) in
      let room = read_long k s p buf m in
      let rest = runs d room (before ++ (line_in b ∷ [])) (plain_more before (line_in b) h (line_below b)) in
      passes.Reporting.got a
      (subst (λ (r : Report). Reporting f setting lend (suc k) s' b (drop t p ∷ ps) r (so_far f (before ++ (line_in b ∷ ls)))) (sym (fed f (is_known f format ok) before h b room))
      (subst (λ (l : List (List ℕ)). Reporting f setting lend (suc k) s' b (drop t p ∷ ps) (so_far f (before ++ (line_in b ∷ []))) (so_far f l)) (append_assoc before (line_in b ∷ []) ls) rest))

  begin : empty_report ≡ so_far f []
  begin = sym (ap (report_of f) (take_all most_lines [] (omega arith)) ∙ report_none f)

  -- THE REPORT OF ANY CUT RECORDING: a caller may end with it, and with no other
  pub report_of_recording : (buf : List ℕ) → 44356 ≤ length buf → (ps : List (List ℕ)) (q : Report)
      → Reporting f setting lend 0 fresh_state buf ps empty_report q ↔ (q ≡ so_far f (recorded setting (in_arow ps)))
  report_of_recording buf m ps q =
      let plain = demand_3 f format ok setting small lend long buf m ps in
      let d = (plain (recorded setting (in_arow ps))).1 refl in (
        λ run. let x = run_of run m [] plain_nil begin in x.is ∙ ap (so_far f) ((plain x.ls).0 x.handed),
        λ e. subst (λ (z : Report). Reporting f setting lend 0 fresh_state buf ps empty_report z) (sym e)
            (subst (λ (z : Report). Reporting f setting lend 0 fresh_state buf ps z (so_far f (recorded setting (in_arow ps)))) (sym begin) (runs d m [] plain_nil)),
      )

  -- where it has no more than 100,000 lines, the report of all of them
  pub report_of_pass : (buf : List ℕ) → 44356 ≤ length buf → (ps : List (List ℕ)) (q : Report) → length (recorded setting (in_arow ps)) ≤ most_lines
      → Reporting f setting lend 0 fresh_state buf ps empty_report q ↔ (q ≡ report_of f (recorded setting (in_arow ps)))
  report_of_pass buf m ps q few =
      let all = ap (report_of f) (take_all most_lines (recorded setting (in_arow ps)) few) in
      let told = report_of_recording buf m ps q in
      (λ run. told.0 run ∙ all, λ e. told.1 (e ∙ sym all))
