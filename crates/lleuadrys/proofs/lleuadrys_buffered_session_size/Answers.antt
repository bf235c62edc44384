-- Its parts, counted.
use mathlib.Core.Path.{sym}
use Rattle.storing.proofs.Read.{size-buffered}
use Rattle.lleuadrys.proofs.lleuadrys_buffered_session_size.Goals as goal

pub returns : goal.returns
returns c = sym size-buffered
