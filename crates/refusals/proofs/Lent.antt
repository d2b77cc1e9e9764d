-- AN ANSWER THAT COMES WITH WHAT THE CALL LEFT, in a lent slice, a register or a record: a refused call leaves it as it was. The two
-- ways of such a call. Assumes nothing.
use mathlib.Core.Path.{◌≡◌, refl, sym, ap, ◌∙◌}
use Prim.Native.Nat.{ℕ, zero, suc}
use native.Mathlib.Nat.{suc-ne-zero}
use Rattle.std.specs.Prelude.{Result, Ok, Err}
use Rattle.std.specs.Result.{IsErrAnd}
use Rattle.refusals.specs.declared.Refusal.{Refusal}
use Rattle.refusals.specs.Refusals.{kept, number_of, Answers}
use Rattle.refusals.proofs.Numbers.{number_some}

module _ {A B : Type 0} (k : ℕ) (nothing x : A) (was becomes : B) where
  pub lent_err : (r : Result A Refusal) (e : Refusal) → IsErrAnd r (λ (d : Refusal). d ≡ e) → number_of e ≡ k → Answers k nothing x r × (was ≡ kept k was becomes)
  unfolding kept
  lent_err (Ok y) e h n = absurd h
  lent_err (Err d) e h n = by k (ap number_of h ∙ n)
    where
      by : (j : ℕ) → number_of d ≡ j → Answers j nothing x (Err d) × (was ≡ kept j was becomes)
      by zero i = absurd (number_some d i)
      by (suc j) i = ((i, refl), refl)

  pub lent_ok : (y : A) (after : B) → 0 ≡ k → y ≡ x → after ≡ becomes → Answers k nothing x (Ok y) × (after ≡ kept k was becomes)
  unfolding kept
  lent_ok y after z v s = by k z
    where
      by : (j : ℕ) → 0 ≡ j → Answers j nothing x (Ok y) × (after ≡ kept j was becomes)
      by zero i = ((i, v), s)
      by (suc j) i = absurd (suc-ne-zero j (sym i))
