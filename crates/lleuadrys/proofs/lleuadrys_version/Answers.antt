-- Counted.
use mathlib.Core.Path.{refl}
use Rattle.lleuadrys.specs.Calls.{version}
use Rattle.lleuadrys.proofs.lleuadrys_version.Goals as goal

pub returns : goal.returns
unfolding version
returns c = refl
