-- `blocking::is_there` meets its contract: two tests.
use borrow.Author.Tests.{lt-ltb, le-ltb}
use Rattle.blocking.specs.Blocking.{is_there}
use Rattle.blocking.proofs.is_there.Goals as goal

pub returns-then-k-e-clause-there : goal.returns-then-k-e-clause-there
unfolding is_there
returns-then-k-e-clause-there c = rw (lt-ltb _ _ c.if-k-e.true)

pub returns-else-k-e-clause-there : goal.returns-else-k-e-clause-there
unfolding is_there
returns-else-k-e-clause-there c = rw (le-ltb _ _ c.if-k-e.false)
