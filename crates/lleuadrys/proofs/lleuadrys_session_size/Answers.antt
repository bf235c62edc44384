-- Its parts, counted.
use mathlib.Core.Path.{sym}
use Rattle.storing.proofs.Read.{size-plain}
use Rattle.lleuadrys.proofs.lleuadrys_session_size.Goals as goal

pub returns : goal.returns
returns c = sym size-plain
