-- By whether the record fits at the place itself, as the definition goes.
use mathlib.Core.Path.{sym}
use Rattle.packing.specs.Placing.{goes_to}
use Rattle.packing.proofs.goes_to_sector.Goals as goal

pub returns-then-fits_here : goal.returns-then-fits_here
unfolding goes_to
returns-then-fits_here c = rw (sym c.if-fits_here.ensures, goes_to)

pub returns-else-fits_here : goal.returns-else-fits_here
unfolding goes_to
returns-else-fits_here c = rw (sym c.if-fits_here.ensures, goes_to)
