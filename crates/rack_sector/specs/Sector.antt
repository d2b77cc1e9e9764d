-- The answers of the calls on sectors that are more than one number. Assumes nothing.
use Rattle.std.specs.Prelude.{ℕ, List, replicate, Result}
use Rattle.refusals.specs.declared.Refusal.{Refusal}
use Rattle.refusals.specs.Refusals.{answer_number, answer_value}
use Rattle.rack_number.specs.declared.CountAnswer.{CountAnswer}
use Rattle.rack_sector.specs.declared.StripAnswer.{StripAnswer}
use Rattle.rack_sector.specs.declared.TwelveAnswer.{TwelveAnswer}
use Rattle.rack_number.specs.Number.{count_given}

unfoldable pub twelve_given : Result (List ℕ) Refusal → TwelveAnswer
twelve_given a = record { refused = answer_number a; answers = answer_value (replicate 12 0) a }

unfoldable pub filler_given : Result ℕ Refusal → CountAnswer
filler_given a = count_given (answer_number a) (answer_value 0 a)

unfoldable pub strip_given : Result (List ℕ) Refusal → StripAnswer
strip_given a = record { refused = answer_number a; vis = answer_value (replicate 4 0) a }
