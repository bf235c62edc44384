-- `listing::put_name` meets its contract: the blank stands behind the letters.
use Rattle.texts.proofs.Writing.{then}
use Rattle.listing.proofs.put_name.Goals as goal

pub returns : goal.returns
returns c = then c.put_letters-a.ensures c.put_byte.ensures
