-- `Held::put_back` meets the trait's contract: the buffer goes back, and the file keeps what it was lent.
use mathlib.Core.Path.{refl}
use Rattle.blocking.proofs.HeldMover.put_back.Goals as goal

pub returns : goal.returns
returns c = (c.put_back-self.ensures, (refl, refl, refl))
