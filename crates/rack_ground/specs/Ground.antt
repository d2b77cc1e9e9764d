-- The answers of the calls about formats, register and SYNC as one struct of numbers each, over the paper's number and values of
-- the call's own answer: a refused one has its number and 0 elsewhere, but for a register, which comes back. Assumes nothing.
use Rattle.std.specs.Prelude.{ℕ, ◌+◌, ◌*◌, Result}
use Rattle.refusals.specs.declared.Refusal.{Refusal}
use Rattle.refusals.specs.Refusals.{answer_number, answer_value}
use Rattle.formats.specs.Formats.{no_format}
use Rattle.formats.specs.declared.Format.{Format}
use Rattle.rack_number.specs.declared.CountAnswer.{CountAnswer}
use Rattle.rack_number.specs.Number.{count_given}
use Rattle.rack_ground.specs.declared.FormatAnswer.{FormatAnswer}
use Rattle.rack_ground.specs.declared.StepAnswer.{StepAnswer}

-- the version of the library, 0.8.0, as one number: ten thousand times its first part, a hundred times its second, its third
abbrev pub version : ℕ
version = 10000 * 0 + 100 * 8 + 0

unfoldable pub format_given : Result Format Refusal → FormatAnswer
format_given a = record {
  refused = answer_number a;
  number = (answer_value no_format a).number;
  check_start = (answer_value no_format a).check_start;
  sync_bits = (answer_value no_format a).sync;
  information_bits = (answer_value no_format a).information;
  dummy_bits = (answer_value no_format a).dummy;
  bytes = (answer_value no_format a).bytes;
}

-- a step with the register after it
unfoldable pub step_given : Result ℕ Refusal → ℕ → StepAnswer
step_given a register = record { refused = answer_number a; bit = answer_value 0 a; register = register }

unfoldable pub sync_given : Result ℕ Refusal → CountAnswer
sync_given a = count_given (answer_number a) (answer_value 0 a)
