-- `directory::is_marked` meets its contract: the code is the definition.
use Rattle.directory.specs.Entries.{is_marked}
use mathlib.Core.Path.{refl}
use Rattle.directory.proofs.is_marked.Goals as goal

pub returns : goal.returns
unfolding is_marked
returns c = refl
