-- `texts::put_number` meets its contract: the byte stands behind the digits.
use Rattle.texts.specs.Texts.{decimal}
use Rattle.texts.proofs.Writing.{then}
use Rattle.texts.proofs.put_number.Goals as goal

pub returns : goal.returns
unfolding decimal
returns c = then c.put_digits-a.ensures c.put_byte.ensures
