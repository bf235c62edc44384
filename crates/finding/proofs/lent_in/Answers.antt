-- The buffer of state k, if that holds a sector.
use mathlib.Core.Path.{refl}
use Rattle.finding.proofs.Lent.{lent-part, lent_none}
use Rattle.finding.proofs.lent_in.Goals as goal

pub returns-then-holds-k : goal.returns-then-holds-k
returns-then-holds-k c =
    let a = c.args in
    lent-part a.b.now a.k a.holds _ c.if-holds-k.true _ refl c.part.ensures

pub returns-else-holds-k : goal.returns-else-holds-k
returns-else-holds-k c =
    let a = c.args in
    lent_none a.b.now a.k a.holds _ c.if-holds-k.false c.part-else-holds-k.ensures
