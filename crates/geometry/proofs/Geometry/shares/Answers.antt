-- `Geometry::shares` meets its contract, by its definition.
use mathlib.Core.Path.{refl}
use Rattle.geometry.specs.Places.{shares}
use Rattle.geometry.proofs.Geometry.shares.Goals as goal

pub returns : goal.returns
unfolding shares
returns c = refl
