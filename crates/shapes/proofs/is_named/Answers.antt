-- `shapes::is_named` meets its contract: the number of bytes is asked for first.
use borrow.Author.Tests.{eq-eqb, ne_eqb}
use Rattle.shapes.specs.Made.{is_named}
use Rattle.shapes.proofs.is_named.Goals as goal

pub returns-then-name-eq8 : goal.returns-then-name-eq8
unfolding is_named
returns-then-name-eq8 c = rw (eq-eqb _ 8 c.if-name-eq8.true) c.is_name.ensures

pub returns-else-name-eq8 : goal.returns-else-name-eq8
unfolding is_named
returns-else-name-eq8 c = rw (ne_eqb _ 8 c.if-name-eq8.false)
