-- `directory::length_good` meets its contract: the tests are those of the definition.
use mathlib.Core.Path.{refl}
use Rattle.vetting.proofs.length_good.Goals as goal

pub returns : goal.returns
returns c = refl
