-- 15 AND 12 OF THE PASS REPORT, EXACTLY: 15 of possible records alone, where their lines together are over the limit; 12 of records
-- that are impossible, whatever the line. Assumes nothing.
use mathlib.Core.Bool.{Bool, true, false, true≢false, not, ◌&&◌}
use mathlib.Core.List.{[], ◌∷◌}
use mathlib.Core.Logic.{◌↔◌}
use mathlib.Core.Path.{◌≡◌, refl, sym, ap, ◌∙◌}
use Prim.Native.Nat.{ℕ, suc, ◌+◌, ◌<◌}
use native.Mathlib.Nat.{suc-ne-zero}
use native.Mathlib.Omega.{arith}
use borrow.Author.Tests.{ltb-true, lt-ltb, not-true, not-false}
use lib.Dec.{ltb}
use Rattle.refusals.specs.Refusals.{first, when}
use Rattle.refusals.specs.Order.{first_of}
use Rattle.refusals.proofs.Exactly.{exactly}
use Rattle.refusals.proofs.Chains.{chain_one}
use Rattle.formats.specs.Formats.{unknown, line_bytes, format_refusal}
use Rattle.formats.proofs.Which.{refused_when}
use Rattle.report_record.specs.declared.Report.{Report}
use Rattle.report_record.specs.Possible.{most_lines, possible_report}
use Rattle.report.specs.Calls.{with_line_refusal, together_refusal}
use Rattle.demands.specs.Orders.{format_test, report_test, full_test}
use Rattle.demands.proofs.Orders.{orders}

-- of two tests none applies
neither : (s t : Bool) (k m : ℕ) → (first_of ((suc k, s) ∷ (suc m, t) ∷ []) ≡ 0) ↔ ((s ≡ false) × (t ≡ false))
unfolding first_of first when
neither false false k m = ((λ e. (refl, refl)), (λ h. refl))
neither false true k m = ((λ e. absurd (suc-ne-zero m e)), (λ h. absurd (true≢false h.1)))
neither true t k m = ((λ e. absurd (suc-ne-zero k e)), (λ h. absurd (true≢false h.0)))

-- a format is known
known_when : (f : ℕ) → (format_refusal f ≡ 0) ↔ (unknown f ≡ false)
known_when f = (λ e. by (unknown f) (sym (refused_when f) ∙ e), λ e. refused_when f ∙ ap (λ (t : Bool). when t 1) e ∙ none)
  where
    by : (t : Bool) → when t 1 ≡ 0 → t ≡ false
    by true e = absurd (suc-ne-zero 0 (unfold when in e))
    by false e = refl

    none : when false 1 ≡ 0
    none = unfold when in refl

-- ---- 15

pub exactly_15 : (f : ℕ) (r : Report) (given : ℕ)
    → (with_line_refusal f r given ≡ 15) ↔ ((format_refusal f ≡ 0) × (possible_report r ≡ true) × (most_lines < r.lines + 1))
exactly_15 f r given =
    let over = exactly 15 (format_test f ∷ report_test r ∷ []) ((2, ltb given line_bytes) ∷ []) (ltb most_lines (r.lines + 1)) (λ z. omega arith) refl refl in
    let tests = (orders.with_line f r given).given in
    let before = neither (unknown f) (not (possible_report r)) 0 11 in (
      λ e. let h = over.0 (sym tests ∙ e) in
          let p = before.0 h.0 in
          ((known_when f).1 p.0, not-false _ p.1, ltb-true _ _ h.1),
      λ h. tests ∙ over.1 (before.1 ((known_when f).0 h.0, ap not h.1), lt-ltb _ _ h.2),
    )

pub exactly_15_together : (a b : Report)
    → (together_refusal a b ≡ 15) ↔ ((possible_report a ≡ true) × (possible_report b ≡ true) × (most_lines < a.lines + b.lines))
exactly_15_together a b =
    let over = exactly 15 (report_test a ∷ report_test b ∷ []) [] (ltb most_lines (a.lines + b.lines)) (λ z. omega arith) refl refl in
    let tests = (orders.together a b).given in
    let before = neither (not (possible_report a)) (not (possible_report b)) 11 11 in (
      λ e. let h = over.0 (sym tests ∙ e) in
          let p = before.0 h.0 in
          (not-false _ p.0, not-false _ p.1, ltb-true _ _ h.1),
      λ h. tests ∙ over.1 (before.1 (ap not h.0, ap not h.1), lt-ltb _ _ h.2),
    )

-- ---- 12

pub exactly_12 : (f : ℕ) (r : Report) (given : ℕ) → (with_line_refusal f r given ≡ 12) ↔ ((format_refusal f ≡ 0) × (possible_report r ≡ false))
exactly_12 f r given =
    let own = exactly 12 (format_test f ∷ []) (full_test r.lines 1 ∷ (2, ltb given line_bytes) ∷ []) (not (possible_report r)) (λ z. omega arith) refl refl in
    let tests = (orders.with_line f r given).given in
    let format = refused_when f ∙ chain_one (unknown f) 1 in (
      λ e. let h = own.0 (sym tests ∙ e) in (format ∙ h.0, not-true _ h.1),
      λ h. tests ∙ own.1 (sym format ∙ h.0, ap not h.1),
    )

pub exactly_12_together : (a b : Report) → (together_refusal a b ≡ 12) ↔ (possible_report a && possible_report b ≡ false)
exactly_12_together a b =
    let tests = (orders.together a b).given in
    let told = by (possible_report a) (possible_report b) (ltb most_lines (a.lines + b.lines)) in
    (λ e. told.0 (sym tests ∙ e), λ h. tests ∙ told.1 h)
  where
    by : (s t u : Bool) → (first_of ((12, not s) ∷ (12, not t) ∷ (15, u) ∷ []) ≡ 12) ↔ (s && t ≡ false)
    by true true true = unfold first_of first when in ((λ e. absurd (omega arith)), (λ h. absurd (true≢false h)))
    by true true false = unfold first_of first when in ((λ e. absurd (omega arith)), (λ h. absurd (true≢false h)))
    by true false u = unfold first_of first when in ((λ e. refl), (λ h. refl))
    by false t u = unfold first_of first when in ((λ e. refl), (λ h. refl))
