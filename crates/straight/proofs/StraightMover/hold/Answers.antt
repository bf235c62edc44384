-- `Straight::hold` meets the trait's contract: straight in the image a read holds nothing.
use mathlib.Core.Path.{refl}
use Rattle.steps.specs.Effects.{plain_do}
use Rattle.straight.proofs.StraightMover.hold.Goals as goal

pub returns : goal.returns
unfolding plain_do
returns c = (refl, (refl, refl))
