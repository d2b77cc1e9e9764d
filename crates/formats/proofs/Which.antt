-- There are three formats, and in each every part of a line is a whole number of bytes. Assumes nothing.
use mathlib.Core.Path.{◌≡◌, refl, sym, ap, ◌∙◌, subst}
use mathlib.Core.Bool.{Bool, true, false, cond}
use Prim.Native.Nat.{ℕ, ◌+◌, ◌*◌, ◌/◌, ◌^◌, ◌<◌}
use native.Mathlib.Omega.{arith}
use lib.Dec.{eqb, lit<}
use Rattle.std.specs.Prelude.{Ok, Err}
use Rattle.refusals.specs.declared.Refusal.{Refusal}
use Rattle.refusals.specs.Refusals.{when, number_of, refuses, answer_number, answer_value}
use Rattle.formats.specs.Formats.{svissr, hirid, svissr_ones, format_of, unknown, format_refusal, no_format, named_by, check_start, information_bits, line_bytes}
use Rattle.formats.specs.declared.Format.{Format}
use Rattle.formats.proofs.Settled.{format_told}

-- WHAT HOLDS OF EACH FORMAT holds of the one that a number names
pub of_each : (P : Format → Type 0) → P svissr → P hirid → P svissr_ones → (n : ℕ) (f : Format) → format_of n ≡ Ok f → P f
of_each P p q r n f = go (eqb n 1) (eqb n 2) (eqb n 3)
  where
    go : (a b c : Bool) → cond a (Ok svissr) (cond b (Ok hirid) (cond c (Ok svissr_ones) (refuses 1))) ≡ Ok f → P f
    go true b c e = subst P (ap (answer_value no_format) e) p
    go false true c e = subst P (ap (answer_value no_format) e) q
    go false false true e = subst P (ap (answer_value no_format) e) r
    go false false false e = absurd (let z : ◌≡◌ {A = ℕ} 0 1 = cc in let w : ⊥ = omega arith in w)

-- the parts of a line, in bytes
pub record Parts (f : Format) : Type 0 where
  pub sync_whole : f.sync ≡ f.sync / 8 * 8
  pub dummy_whole : f.dummy ≡ f.dummy / 8 * 8
  pub information_is : f.information ≡ information_bits
  pub all : f.bytes ≡ f.sync / 8 + line_bytes + f.dummy / 8
  pub small : f.bytes < 50000

parts_1 : Parts svissr
parts_1 = record { sync_whole = refl; dummy_whole = refl; information_is = refl; all = refl; small = lit< tt }

parts_2 : Parts hirid
parts_2 = record { sync_whole = refl; dummy_whole = refl; information_is = refl; all = refl; small = lit< tt }

parts_3 : Parts svissr_ones
parts_3 = record { sync_whole = refl; dummy_whole = refl; information_is = refl; all = refl; small = lit< tt }

pub parts : (n : ℕ) (f : Format) → format_of n ≡ Ok f → Parts f
parts = of_each Parts parts_1 parts_2 parts_3

-- ---- a number that is not refused

pub record Named (n : ℕ) : Type 0 where
  pub format : Format
  pub is : format_of n ≡ Ok format

pub named : (n : ℕ) → format_refusal n ≡ 0 → Named n
named n = go (eqb n 1) (eqb n 2) (eqb n 3) refl
  where
    go : (a b c : Bool) → format_of n ≡ cond a (Ok svissr) (cond b (Ok hirid) (cond c (Ok svissr_ones) (refuses 1))) → format_refusal n ≡ 0 → Named n
    go true b c is e = record { format = svissr; is = is }
    go false true c is e = record { format = hirid; is = is }
    go false false true is e = record { format = svissr_ones; is = is }
    go false false false is e = absurd (let z : ◌≡◌ {A = ℕ} 1 0 = sym (ap answer_number is) ∙ (format_told n (format_of n) refl).0 ∙ e in let w : ⊥ = omega arith in w)

pub is_known : (n : ℕ) (f : Format) → format_of n ≡ Ok f → format_refusal n ≡ 0
is_known n f e = sym (format_told n (format_of n) refl).0 ∙ ap answer_number e

pub is_unknown : (n : ℕ) (k : Refusal) → format_of n ≡ Err k → format_refusal n ≡ number_of k
is_unknown n k e = sym (format_told n (format_of n) refl).0 ∙ ap answer_number e

-- 1 exactly where the number names none
pub refused_when : (n : ℕ) → format_refusal n ≡ when (unknown n) 1
unfolding format_refusal
refused_when n = refl

pub named_by_is : (n : ℕ) (f : Format) → format_of n ≡ Ok f → named_by n ≡ f
named_by_is n f e = sym (format_told n (format_of n) refl).1 ∙ ap (answer_value no_format) e

-- ---- the start value of the check

pub start_is : (n : ℕ) (f : Format) → format_of n ≡ Ok f → check_start n ≡ f.check_start
unfolding check_start
start_is n f e = ap (λ (g : Format). g.check_start) (named_by_is n f e)

-- sixteen bits in every format, and where there is none
pub start_lt : (n : ℕ) → check_start n < 2 ^ 16
unfolding check_start named_by
start_lt n = go (eqb n 1) (eqb n 2) (eqb n 3)
  where
    go : (a b c : Bool) → (cond a svissr (cond b hirid (cond c svissr_ones no_format))).check_start < 2 ^ 16
    go true b c = lit< tt
    go false true c = lit< tt
    go false false true = lit< tt
    go false false false = lit< tt

-- format 1's, format 2's and format 3's
pub start_1 : check_start 1 ≡ 0
unfolding check_start named_by
start_1 = refl

pub start_2 : check_start 2 ≡ 0
unfolding check_start named_by
start_2 = refl

pub start_3 : check_start 3 ≡ 0xffff
unfolding check_start named_by
start_3 = refl
