-- `blocking::has_buffer` meets its contract: the code is the definition.
use mathlib.Core.Path.{refl}
use Rattle.blocking.proofs.has_buffer.Goals as goal

pub returns : goal.returns
returns c = refl
