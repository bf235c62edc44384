-- `Geometry::per_sector` meets its contract, by its definition.
use Rattle.geometry.specs.Places.{per_sector}
use Rattle.geometry.proofs.Geometry.per_sector.Goals as goal

pub returns : goal.returns
unfolding per_sector
returns c = c.quotient.ensures
