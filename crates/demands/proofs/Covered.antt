-- DEMANDS 2 AND 3 COVER FORMAT 3, by the theorems of every format. Assumes nothing.
use mathlib.Core.Path.{refl}
use native.Mathlib.Omega.{arith}
use Rattle.formats.specs.Formats.{svissr_ones}
use Rattle.sector_rounds.proofs.Rounds.{holds_back}
use Rattle.demands.specs.Ones.{Covered}
use Rattle.demands.proofs.Demand2.{demand_2}
use Rattle.demands.proofs.Demand3.{demand_3_all}
use Rattle.demands.proofs.RoundTrip.{round_trip}

pub covered : Covered
covered =
    record {
      named = refl;
      demand_3 = demand_3_all 3 svissr_ones refl;
      round_trip = λ setting small ls plain. round_trip 3 svissr_ones refl setting (omega arith) ls plain;
      demand_2 = demand_2 3 svissr_ones refl;
      sectors = holds_back 3;
    }
