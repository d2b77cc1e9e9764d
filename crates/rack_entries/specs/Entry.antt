-- The entries of a finished block as they cross the boundary. Assumes nothing.
use Rattle.std.specs.Prelude.{Result}
use Rattle.std.specs.Float.Ieee as Ieee
use Rattle.refusals.specs.declared.Refusal.{Refusal}
use Rattle.refusals.specs.Refusals.{answer_number, answer_value}
use Rattle.numbers.specs.declared.R.{R}
use Rattle.numbers.specs.Reals.{zero_real}
use Rattle.floats.specs.Floats.{zero_float}
use Rattle.grid_points.specs.declared.Grid.{Grid}
use Rattle.entries.specs.declared.orbit.Orbit.{Orbit}
use Rattle.entries.specs.Entries.{no_point, no_elements}
use Rattle.calibration.specs.declared.Level.{Level}
use Rattle.calibration.specs.Tables.{leveled}
use Rattle.rack_entries.specs.declared.LevelAnswer.{LevelAnswer}
use Rattle.rack_entries.specs.declared.LevelFloatAnswer.{LevelFloatAnswer}
use Rattle.rack_entries.specs.declared.GridAnswer.{GridAnswer}
use Rattle.rack_entries.specs.declared.OrbitAnswer.{OrbitAnswer}

-- what a level gives, and 0 for value and revision where it is refused
abbrev pub level_in : Result (Level R) Refusal → Level R
level_in a = answer_value (leveled (zero_real, 0)) a

abbrev pub level_f64_in : Result (Level Ieee.Float) Refusal → Level Ieee.Float
level_f64_in a = answer_value (leveled (zero_float, 0)) a

unfoldable pub level_given : Result (Level R) Refusal → LevelAnswer
level_given a = record {
  refused = answer_number a;
  negative = (level_in a).value.negative;
  places = (level_in a).value.places;
  revision = (level_in a).revision;
  magnitude = (level_in a).value.magnitude;
}

unfoldable pub level_f64_given : Result (Level Ieee.Float) Refusal → LevelFloatAnswer
level_f64_given a = record { refused = answer_number a; revision = (level_f64_in a).revision; value = (level_f64_in a).value }

-- likewise a point and the elements
abbrev pub point_in : Result Grid Refusal → Grid
point_in a = answer_value no_point a

abbrev pub orbit_in : Result Orbit Refusal → Orbit
orbit_in a = answer_value no_elements a

unfoldable pub grid_given : Result Grid Refusal → GridAnswer
grid_given a = record {
  refused = answer_number a;
  line = (point_in a).line;
  pixel = (point_in a).pixel;
  latitude = (point_in a).latitude;
  longitude = (point_in a).longitude;
}

unfoldable pub orbit_given : Result Orbit Refusal → OrbitAnswer
orbit_given a = record {
  refused = answer_number a;
  epoch = (orbit_in a).epoch;
  axis = (orbit_in a).axis;
  eccentricity = (orbit_in a).eccentricity;
  inclination = (orbit_in a).inclination;
  node = (orbit_in a).node;
  perigee = (orbit_in a).perigee;
  anomaly = (orbit_in a).anomaly;
}
