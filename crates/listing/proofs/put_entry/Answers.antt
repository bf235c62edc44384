-- `listing::put_entry` meets its contract: a free entry has no line.
use Rattle.texts.proofs.Writing.{wrote_none}
use Rattle.listing.proofs.Texts.{free-line, used-line}
use Rattle.listing.proofs.put_entry.Goals as goal

pub returns-then-e-eq-FREE : goal.returns-then-e-eq-FREE
returns-then-e-eq-FREE c =
    let a = c.args in
    rw (free-line a.i a.e c.if-e-eq-FREE.true) (wrote_none _ _)

pub returns-else-e-eq-FREE : goal.returns-else-e-eq-FREE
returns-else-e-eq-FREE c =
    let a = c.args in
    rw (used-line a.i a.e c.if-e-eq-FREE.false) c.put_line.ensures
