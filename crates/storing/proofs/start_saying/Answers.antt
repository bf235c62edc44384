-- As it is defined.
use mathlib.Core.Path.{refl}
use Rattle.storing.specs.Stored.{start_saying}
use Rattle.storing.proofs.start_saying.Goals as goal

pub returns : goal.returns
unfolding start_saying
returns c = refl
