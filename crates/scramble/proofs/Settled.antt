-- The answer of a step is settled by what the paper reads in it, the number of its refusal and the bit; and what a step of a
-- register of fifteen bits gives. Assumes nothing.
use mathlib.Core.Path.{◌≡◌, ap, ◌∙◌}
use Prim.Native.Nat.{ℕ, ◌≤◌}
use lib.Dec.{ltb}
use borrow.Author.Tests.{le-ltb}
use Rattle.std.specs.Prelude.{Result, Ok}
use Rattle.refusals.specs.declared.Refusal.{Refusal}
use Rattle.refusals.specs.Refusals.{answered, refuses}
use Rattle.refusals.proofs.Words.{when_false, kept_none}
use Rattle.refusals.proofs.Numbers.{answers_is}
use Rattle.scramble.specs.Register.{new_bit, next_register}
use Rattle.scramble.specs.Sync.{fifteen_ones}
use Rattle.scramble.specs.Step.{step_refusal, step_answer, StepOk, register_left}

pub step_is : (r : ℕ) (a : Result ℕ Refusal) → StepOk r a → a ≡ step_answer r
unfolding step_answer
step_is r a = answers_is _ _ _ a

-- ---- a register of fifteen bits is not refused

within : (r : ℕ) → r ≤ fifteen_ones → step_refusal r ≡ 0
unfolding step_refusal
within r h = when_false (ltb fifteen_ones r) 12 (le-ltb _ _ h)

pub left_within : (r : ℕ) → r ≤ fifteen_ones → register_left r ≡ next_register r
unfolding register_left
left_within r h = kept_none (step_refusal r) r (next_register r) (within r h)

-- what a step of a register of fifteen bits gave
pub bit_within : (r : ℕ) (a : Result ℕ Refusal) → r ≤ fifteen_ones → StepOk r a → a ≡ Ok (new_bit r)
unfolding step_answer answered
bit_within r a h ok = step_is r a ok ∙ ap (λ (k : ℕ). answered refuses k (Ok (new_bit r))) (within r h)
