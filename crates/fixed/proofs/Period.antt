-- The register's period is 32,767, so it can be told where it stands after the information bits. Assumes nothing.
use mathlib.Core.Path.{◌≡◌, refl, sym, ap, ◌∙◌}
use Prim.Native.Nat.{ℕ, zero, suc, ◌*◌}
use native.Mathlib.Nat.{suc-mul}
use Rattle.scramble.specs.Register.{new_bit, next_register, register_after}
use Rattle.scramble.specs.Sync.{fifteen_ones}
use Rattle.wire.proofs.Rule.{after_add}

-- the same steps, as antt computes them without piling up calls: the register is read before the next step
run : ℕ → ℕ → ℕ
run zero r = r
run (suc n) r = elim (next_register r) [ zero ↦ run n zero | suc m ↦ run n (suc m) ]

run_is : (n r : ℕ) → run n r ≡ register_after n r
unfolding run register_after
run_is zero r = refl
run_is (suc n) r = go (next_register r) (run_is n)
  where
    go : (x : ℕ) → ((y : ℕ) → run n y ≡ register_after n y) → elim x [ zero ↦ run n zero | suc m ↦ run n (suc m) ] ≡ register_after n x
    go zero ih = ih zero
    go (suc x) ih = ih (suc x)

period : run 32767 fifteen_ones ≡ fifteen_ones
unfolding run next_register new_bit
period = refl

pub after_period : register_after 32767 fifteen_ones ≡ fifteen_ones
after_period = sym (run_is 32767 fifteen_ones) ∙ period

pub after_periods : (k : ℕ) → register_after (k * 32767) fifteen_ones ≡ fifteen_ones
after_periods zero = unfold register_after in refl
after_periods (suc k) =
    ap (λ (n : ℕ). register_after n fifteen_ones) (suc-mul k 32767)
    ∙ after_add (k * 32767) 32767 fifteen_ones ∙ ap (register_after 32767) (after_periods k) ∙ after_period

left_over : run 27178 fifteen_ones ≡ 4016
unfolding run next_register new_bit
left_over = refl

-- 354,848 is ten periods and 27,178
pub after_information : register_after 354848 fifteen_ones ≡ 4016
after_information =
    after_add 327670 27178 fifteen_ones ∙ ap (register_after 27178) (after_periods 10) ∙ sym (run_is 27178 fifteen_ones) ∙ left_over
