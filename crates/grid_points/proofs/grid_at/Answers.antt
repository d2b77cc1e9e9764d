-- `grid_points::grid_at` meets its contract. Assumes nothing.
use Rattle.degrees.specs.Degrees.{latitude_of, longitude_of}
use Rattle.grid_points.specs.Points.{grid_at}
use Rattle.degrees.proofs.Degrees.{back, latitude_fits, longitude_fits}
use Rattle.grid_points.proofs.grid_at.Goals as goal

pub returns : goal.returns
unfolding grid_at
returns c =
    let a = c.args in
    λ i. record {
      line = c.integer_at.ensures i;
      pixel = c.integer_at-2.ensures i;
      latitude = back c.latitude.result (latitude_of a.row) (latitude_fits a.row c.requires.0) c.latitude.ensures i;
      longitude = back c.longitude.result (longitude_of a.format a.column) (longitude_fits a.format a.column c.requires.1) c.longitude.ensures i;
    }
