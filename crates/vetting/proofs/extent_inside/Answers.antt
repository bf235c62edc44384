-- `directory::extent_inside` meets its contract: the code is the definition.
use mathlib.Core.Path.{refl}
use Rattle.vetting.proofs.extent_inside.Goals as goal

pub returns : goal.returns
returns c = refl
