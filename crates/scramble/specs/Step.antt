-- One step as the calls have it: what it answers, and the register that it leaves. Assumes nothing.
use Rattle.std.specs.Prelude.{ℕ, ltb, Result, Ok}
use Rattle.refusals.specs.declared.Refusal.{Refusal}
use Rattle.refusals.specs.Refusals.{when, answered, kept, refuses, Answers}
use Rattle.scramble.specs.Register.{new_bit, next_register}
use Rattle.scramble.specs.Sync.{fifteen_ones}

-- 12: the register is over fifteen bits
unfoldable pub step_refusal : ℕ → ℕ
step_refusal r = when (ltb fifteen_ones r) 12

unfoldable pub step_answer : ℕ → Result ℕ Refusal
step_answer r = answered refuses (step_refusal r) (Ok (new_bit r))

-- THE CONTRACT of a step from the register r: the number of its refusal, and the bit, 0 where it is refused
abbrev pub StepOk : ℕ → Result ℕ Refusal → Type 0
StepOk r a = Answers (step_refusal r) 0 (new_bit r) a

-- the register after it; as it was where the step is refused
unfoldable pub register_left : ℕ → ℕ
register_left r = kept (step_refusal r) r (next_register r)
