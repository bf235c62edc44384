-- Each field is read at its place.
use Rattle.storing.specs.Stored.{place_in}
use Rattle.finding.proofs.place_at.Goals as goal

pub returns : goal.returns
unfolding place_in
returns c = rw (c.long_at-2.ensures, c.long_at.ensures)
