-- `Straight::put_back` meets the trait's contract: there is nothing to put back.
use mathlib.Core.Path.{refl}
use Rattle.steps.specs.Effects.{plain_do}
use Rattle.straight.proofs.StraightMover.put_back.Goals as goal

pub returns : goal.returns
unfolding plain_do
returns c = (refl, (refl, refl))
