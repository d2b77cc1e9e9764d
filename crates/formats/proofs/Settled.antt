-- The answer to a format number is settled by what the paper reads in it: the number of its refusal, and the format. Assumes nothing.
use mathlib.Core.Bool.{Bool, true, false, cond, not, ◌&&◌}
use mathlib.Core.Path.{◌≡◌, refl, sym, ap, ◌∙◌}
use Prim.Native.Nat.{ℕ}
use lib.Dec.{eqb}
use Rattle.std.specs.Prelude.{Result, Ok}
use Rattle.refusals.specs.declared.Refusal.{Refusal}
use Rattle.refusals.specs.Refusals.{when, answered, kept, refuses, answer_number, answer_value}
use Rattle.refusals.proofs.Numbers.{answers_is}
use Rattle.formats.specs.Formats.{svissr, hirid, svissr_ones, format_of, unknown, format_refusal, no_format, named_by, FormatOk}
use Rattle.formats.specs.declared.Format.{Format}

module _ (n : ℕ) where
  -- the answer by number and format
  formed : format_of n ≡ answered refuses (format_refusal n) (Ok (named_by n))
  unfolding format_refusal unknown named_by when answered
  formed = go (eqb n 1) (eqb n 2) (eqb n 3)
    where
      go : (a b c : Bool) → ◌≡◌ {A = Result Format Refusal} (cond a (Ok svissr) (cond b (Ok hirid) (cond c (Ok svissr_ones) (refuses 1))))
          (answered refuses (when (not a && (not b && not c)) 1) (Ok (cond a svissr (cond b hirid (cond c svissr_ones no_format)))))
      go true b c = refl
      go false true c = refl
      go false false true = refl
      go false false false = refl

  -- a number that is refused names no format
  none_named : named_by n ≡ kept (format_refusal n) no_format (named_by n)
  unfolding format_refusal unknown named_by when kept
  none_named = go (eqb n 1) (eqb n 2) (eqb n 3)
    where
      go : (a b c : Bool) → cond a svissr (cond b hirid (cond c svissr_ones no_format))
          ≡ kept (when (not a && (not b && not c)) 1) no_format (cond a svissr (cond b hirid (cond c svissr_ones no_format)))
      go true b c = refl
      go false true c = refl
      go false false true = refl
      go false false false = refl

  is_so : FormatOk n (format_of n)
  unfolding format_refusal unknown named_by when
  is_so = go (eqb n 1) (eqb n 2) (eqb n 3)
    where
      go : (a b c : Bool) → (answer_number (cond a (Ok svissr) (cond b (Ok hirid) (cond c (Ok svissr_ones) (refuses 1)))) ≡ when (not a && (not b && not c)) 1)
          × (answer_value no_format (cond a (Ok svissr) (cond b (Ok hirid) (cond c (Ok svissr_ones) (refuses 1)))) ≡ cond a svissr (cond b hirid (cond c svissr_ones no_format)))
      go true b c = (refl, refl)
      go false true c = (refl, refl)
      go false false true = (refl, refl)
      go false false false = (refl, refl)

  pub format_told : (r : Result Format Refusal) → r ≡ format_of n → FormatOk n r
  format_told r e = (ap answer_number e ∙ is_so.0, ap (answer_value no_format) e ∙ is_so.1)

  pub format_is : (r : Result Format Refusal) → FormatOk n r → r ≡ format_of n
  format_is r s = answers_is (format_refusal n) no_format (named_by n) r (s.0, s.1 ∙ none_named) ∙ sym formed
