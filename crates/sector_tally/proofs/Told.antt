-- One sector in one line: its three answers, and its tally. Assumes nothing.
use mathlib.Core.Path.{◌≡◌, refl, sym, ap, ◌∙◌}
use mathlib.Core.Bool.{Bool, true, false, not}
use mathlib.Core.Logic.{◌⊎◌, inl, inr}
use mathlib.Core.List.{List, [], ◌∷◌}
use Prim.Native.Nat.{ℕ, ◌+◌}
use native.Mathlib.Nat.{add-zero}
use lib.Dec.{eqb}
use Rattle.refusals.specs.Refusals.{first, when}
use Rattle.crc_step.specs.Remainder.{remainder_of}
use Rattle.sector_table.specs.declared.layout.Layout.{Layout}
use Rattle.sector_table.specs.Layout.{layout_of}
use Rattle.sector_check.specs.Sector.{covered_of, id_of, answer_of, filler_of}
use Rattle.report_record.specs.declared.Tally.{Tally}
use Rattle.report_record.specs.Sums.{total_of}
use Rattle.report_record.specs.Report.{lines_answering, filler_in, tally_of}
use Rattle.report_record.proofs.Adding.{tally_same}
use Rattle.sector_tally.specs.Tallied.{one_tally}

-- the three answers
three : (t u : Bool) → let a = first (when t 5) (when u 6) in (a ≡ 0) ⊎ (a ≡ 5) ⊎ (a ≡ 6)
unfolding first when
three true u = inr (inl refl)
three false true = inr (inr refl)
three false false = inl refl

pub answer_three : (start : ℕ) (l : Layout) (b : List ℕ) (a : ℕ) → a ≡ answer_of start l b → (a ≡ 0) ⊎ (a ≡ 5) ⊎ (a ≡ 6)
unfolding answer_of
answer_three start l b a e = rw e (three (not (eqb (remainder_of start (covered_of l b)) 0)) (not (eqb (id_of l b) l.id)))

-- THE TALLY OF ONE LINE
pub tally_one : (start n : ℕ) (b : List ℕ) (t : Tally) (l : Layout) (a s : ℕ) → t ≡ one_tally a s → l ≡ layout_of n → a ≡ answer_of start l b → s ≡ filler_of l b
    → t ≡ tally_of start n (b ∷ [])
unfolding tally_of lines_answering filler_in total_of
tally_one start n b t l a s et el ea es =
    et ∙ tally_same (is 0) (is 5) (is 6) (es ∙ ap (λ (x : Layout). filler_of x b) el ∙ sym (add-zero (filler_of (layout_of n) b)))
  where
    is : (k : ℕ) → when (eqb a k) 1 ≡ when (eqb (answer_of start (layout_of n) b) k) 1 + 0
    is k = ap (λ (m : ℕ). when (eqb m k) 1) (ea ∙ ap (λ (x : Layout). answer_of start x b) el) ∙ sym (add-zero (when (eqb (answer_of start (layout_of n) b) k) 1))
