-- A number read at a place of a block: the bytes that the code lends are those of the place, and an R read there is not
-- refused. Assumes nothing.
use mathlib.Core.Path.{◌≡◌, subst, ◌∙◌}
use mathlib.Core.Bool.{false}
use mathlib.Core.List.{List}
use Prim.Native.Nat.{ℕ, ◌+◌, ◌-◌, ◌≤◌}
use native.Mathlib.Omega.{arith}
use lib.ListN.{length, take, drop}
use Rattle.std.specs.Prelude.{Result, Ok}
use Rattle.refusals.specs.declared.Refusal.{Refusal}
use Rattle.bits.specs.Bits.{stretch}
use Rattle.bits.proofs.Stretches.{stretch_length, stretch_lent}
use Rattle.numbers.specs.declared.R.{R}
use Rattle.numbers.specs.Reals.{no_real, real_in, ReadRealOk}
use Rattle.numbers.proofs.Answers.{real_if}
use Rattle.numbers.proofs.Settled.{read_real_is}

-- what the code lends
abbrev pub lent : List ℕ → ℕ → ℕ → List ℕ
lent s place n = take (place - 1 + n - (place - 1)) (drop (place - 1) s)

module _ (s : List ℕ) (place n : ℕ) (one : 1 ≤ place) (fits : place + n ≤ length s + 1) where
  own : length (stretch s (place - 1) n) ≡ n
  own = stretch_length s (place - 1) n (omega arith)

  pub real_read : (m : ℕ) (r : Result R Refusal) → no_real n m ≡ false → ReadRealOk n m (lent s place n) r → r ≡ Ok (real_in n m (stretch s (place - 1) n))
  real_read m r form e =
      let said = subst (λ (l : List ℕ). ReadRealOk n m l r) (stretch_lent s (place - 1) n) e in
      read_real_is n m (stretch s (place - 1) n) r said ∙ real_if n m (stretch s (place - 1) n) form (omega (arith, own))
