-- `Geometry::bytes_for` meets its contract, by whether sectors are shared.
use mathlib.Core.Path.{sym, ◌∙◌}
use Rattle.geometry.proofs.Places.{bytes-shared, bytes_whole}
use Rattle.geometry.proofs.Geometry.bytes_for.Goals as goal

pub returns-then-shares : goal.returns-then-shares
returns-then-shares c = rw (bytes-shared _ _ (sym c.shares.ensures ∙ c.if-shares.true))

pub returns-else-shares : goal.returns-else-shares
returns-else-shares c = rw (bytes_whole _ _ (sym c.shares.ensures ∙ c.if-shares.false)) (rw c.sectors_for.ensures)
