-- What the range tests leave once they have not refused. Assumes nothing.
use mathlib.Core.Path.{◌≡◌, refl, sym}
use mathlib.Core.Bool.{Bool, true, false, true≢false, not, ◌&&◌}
use mathlib.Core.Logic.{◌⊎◌, inl, inr, ⊎_elim}
use Prim.Native.Nat.{ℕ, ◌≤◌}
use native.Mathlib.Omega.{arith}
use lib.Dec.{eqb, ltb}
use borrow.Author.Tests.{ltb-false, eqb-true}
use Rattle.std.specs.Prelude.{Result}
use Rattle.refusals.specs.declared.Refusal.{Refusal}
use Rattle.refusals.specs.Refusals.{first, short_of, outside_of, number_of, Answers}
use Rattle.refusals.proofs.Chains.{first_assoc}
use Rattle.refusals.proofs.Numbers.{refused_first, answers_behind}
use Rattle.refusals.proofs.Words.{none_first, none_second, none_when, enough, Inside, inside, or_false}
use Rattle.numbers.specs.Reals.{no_real, form_refusal}

neither_false : (a b : Bool) → (not a && not b) ≡ false → (a ≡ true) ⊎ (b ≡ true)
neither_false true b e = inl refl
neither_false false true e = inr refl
neither_false false false e = absurd (true≢false e)

-- the forms of R*n.m, as bounds
pub real_form : (n m : ℕ) → no_real n m ≡ false → (4 ≤ n) × (n ≤ 6) × (m ≤ 15)
unfolding no_real
real_form n m e =
    let t = or_false (not (eqb n 4) && not (eqb n 6)) (ltb 15 m) e in
    let small : m ≤ 15 = ltb-false 15 m t.1 in
    ⊎_elim
    (λ (h : eqb n 4 ≡ true). let is : n ≡ 4 = eqb-true n 4 h in (omega arith, omega arith, small))
    (λ (h : eqb n 6 ≡ true). let is : n ≡ 6 = eqb-true n 6 h in (omega arith, omega arith, small))
    (neither_false (eqb n 4) (eqb n 6) t.0)

pub formed : (n m : ℕ) → form_refusal n m ≡ 0 → no_real n m ≡ false
unfolding form_refusal
formed n m e = none_when (no_real n m) 10 (λ z. omega arith) e

-- what is known once R*n.m is not refused
pub record Formed (n m given : ℕ) : Type 0 where
  pub form : no_real n m ≡ false
  pub low : 4 ≤ n
  pub high : n ≤ 6
  pub there : n ≤ given

pub real_sized : (n m given : ℕ) → 0 ≡ form_refusal n m → 0 ≡ short_of given n 2 → Formed n m given
real_sized n m given e d =
    let is = formed n m (sym e) in
    let k = real_form n m is in
    record { form = is; low = k.0; high = k.1; there = enough given n 2 (λ z. omega arith) (sym d) }

-- what is known once a number of n bytes is not refused
pub record Sized (hi n given : ℕ) : Type 0 where
  pub low : 1 ≤ n
  pub high : n ≤ hi
  pub there : n ≤ given

pub sized : (hi n given : ℕ) → 0 ≡ first (outside_of 1 hi n 10) (short_of given n 2) → Sized hi n given
sized hi n given e =
    let k : Inside 1 hi n = inside 1 hi n 10 (λ z. omega arith) (none_first (outside_of 1 hi n 10) (short_of given n 2) (sym e)) in
    record {
      low = k.low;
      high = k.high;
      there = enough given n 2 (λ z. omega arith) (none_second (outside_of 1 hi n 10) (short_of given n 2) (sym e));
    }

-- a chain with one test more behind it: refused before that test, or passed on to it
pub refused_before : (e : Refusal) (a b c : ℕ) → number_of e ≡ first a b → number_of e ≡ first a (first b c)
refused_before e a b c h = rw (← first_assoc) (refused_first e (first a b) c h)

pub answers_after : (a b c v : ℕ) (r : Result ℕ Refusal) → 0 ≡ first a b → Answers c 0 v r → Answers (first a (first b c)) 0 v r
answers_after a b c v r e h = rw (← first_assoc) (answers_behind (first a b) c 0 v r e h)
