-- `summing::sum_read` meets its contract: its parts are the definition's.
use Rattle.scripts.specs.Sums.{sums_of}
use Rattle.summing.proofs.sum_read.Goals as goal

pub returns : goal.returns
unfolding sums_of
returns c = rw (c.sums_of.ensures, c.part.ensures, c.entry_at-e.ensures)
