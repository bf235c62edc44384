-- `saying::put_count` meets its contract: the number stands behind the text.
use Rattle.texts.proofs.Writing.{then}
use Rattle.saying.proofs.put_count.Goals as goal

pub returns : goal.returns
returns c = then c.put_all-a.ensures (rw c.from.ensures at c.put_number.ensures)
