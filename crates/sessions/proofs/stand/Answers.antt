-- Open or not.
use Rattle.sessions.specs.Session.{stand}
use Rattle.sessions.proofs.stand.Goals as goal

pub returns-then-f : goal.returns-then-f
unfolding stand
returns-then-f c = rw c.if-f.true

pub returns-else-f : goal.returns-else-f
unfolding stand
returns-else-f c = rw c.if-f.false
