-- The register's step has an inverse, computed at each of the 32,768 registers; so as many steps forward as backward
-- lead home, and SYNC leaves the register at fifteen ones. Assumes nothing.
use mathlib.Core.Path.{◌≡◌, refl, ap, ◌∙◌}
use mathlib.Core.Bool.{Bool}
use Prim.Native.Nat.{ℕ, zero, suc, ◌<◌}
use native.Mathlib.Omega.{arith}
use lib.Dec.{T, eqb, eqb→eq, lit<}
use Rattle.scramble.specs.Register.{new_bit, next_register, register_after}
use Rattle.scramble.specs.Sync.{earlier_register, register_before, fifteen_ones}
use Rattle.scramble.proofs.Steps.{after_more}
use Rattle.fixed.proofs.Every.{below, below_at}

pub earlier_lt : (r : ℕ) → r < 32768 → earlier_register r < 32768
unfolding earlier_register
earlier_lt r h = omega arith

there_and_back : ℕ → Bool
there_and_back r = eqb (next_register (earlier_register r)) r

all_back : T (below 32768 there_and_back)
unfolding there_and_back next_register new_bit earlier_register
all_back = tt

pub next_earlier : (r : ℕ) → r < 32768 → next_register (earlier_register r) ≡ r
unfolding there_and_back
next_earlier r h = eqb→eq (next_register (earlier_register r)) r (below_at 32768 there_and_back all_back r h)

pub after_before : (n r : ℕ) → r < 32768 → register_after n (register_before n r) ≡ r
unfolding register_before
after_before zero r h = unfold register_after in refl
after_before (suc n) r h =
    after_more n (register_before n (earlier_register r))
    ∙ ap next_register (after_before n (earlier_register r) (earlier_lt r h)) ∙ next_earlier r h

pub before_lt : (n r : ℕ) → r < 32768 → register_before n r < 32768
unfolding register_before
before_lt zero r h = h
before_lt (suc n) r h = before_lt n (earlier_register r) (earlier_lt r h)

-- one more step backward, made last
pub before_more : (n r : ℕ) → register_before n (earlier_register r) ≡ earlier_register (register_before n r)
unfolding register_before
before_more zero r = refl
before_more (suc n) r = before_more n (earlier_register r)

-- SYNC leaves the register at fifteen ones
pub after_sync : (n : ℕ) → register_after n (register_before n fifteen_ones) ≡ fifteen_ones
after_sync n = after_before n fifteen_ones (lit< tt)
