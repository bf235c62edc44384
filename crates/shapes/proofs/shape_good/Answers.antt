-- `shapes::shape_good` meets its contract: the tests stand as in the definition.
use Rattle.shapes.specs.Made.{shape_good, file_made}
use Rattle.shapes.proofs.shape_good.Goals as goal

pub returns : goal.returns
unfolding shape_good file_made
returns c = rw c.longest.ensures
