-- `Geometry::sectors_for` meets its contract, by its definition.
use native.Mathlib.Omega.{arith}
use Rattle.geometry.specs.Places.{sectors_for}
use Rattle.geometry.proofs.Geometry.sectors_for.Goals as goal

pub returns : goal.returns
unfolding sectors_for
returns c = omega arith
