-- `sessions::hold_good` meets its contract: the code is the definition.
use mathlib.Core.Path.{refl}
use Rattle.sessions.specs.Grouped.{hold_good}
use Rattle.sessions.proofs.hold_good.Goals as goal

pub returns : goal.returns
unfolding hold_good
returns c = refl
