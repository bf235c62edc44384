-- `directory::is_protected` meets its contract: the code is the definition.
use Rattle.directory.specs.Entries.{is_protected}
use mathlib.Core.Path.{refl}
use Rattle.directory.proofs.is_protected.Goals as goal

pub returns : goal.returns
unfolding is_protected
returns c = refl
