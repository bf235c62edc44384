-- `Geometry::sectors_of` meets its contract, by its definition.
use Rattle.geometry.specs.Sizes.{sectors_of}
use mathlib.Core.Path.{refl}
use Rattle.geometry.proofs.Geometry.sectors_of.Goals as goal

pub returns : goal.returns
unfolding sectors_of
returns c = refl
