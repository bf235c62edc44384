-- `characters::translate` meets its contract: the first bytes are made ASCII, and the others stay.
use Rattle.characters.proofs.Translated.{translated}
use Rattle.characters.proofs.translate.Goals as goal

pub returns : goal.returns
returns c = rw c.make_ascii.ensures (translated c.args.out.now c.args.m c.min-n.result c.min-n.ensures)
