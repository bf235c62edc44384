-- `sessions::place_good` meets its contract: the code is the definition.
use mathlib.Core.Path.{refl}
use Rattle.sessions.specs.Session.{place_good}
use Rattle.sessions.proofs.place_good.Goals as goal

pub returns : goal.returns
unfolding place_good
returns c = refl
