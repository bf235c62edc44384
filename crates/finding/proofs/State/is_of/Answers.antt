-- It is in use, and by that entry.
use Rattle.sessions.specs.Session.{is_of}
use Rattle.finding.proofs.State.is_of.Goals as goal

pub returns : goal.returns
unfolding is_of
returns c = rw (c.is_used.ensures, c.entry.ensures)
