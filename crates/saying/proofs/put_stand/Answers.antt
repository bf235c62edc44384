-- `saying::put_stand` meets its contract: it tests what the definition does.
use Rattle.texts.specs.Texts.{spelled, decimal, spaced}
use Rattle.texts.proofs.Writing.{word-then}
use Rattle.saying.proofs.Lines.{stands-not, stands}
use Rattle.saying.proofs.put_stand.Goals as goal

pub returns-then-standing-eq0 : goal.returns-then-standing-eq0
unfolding spelled spaced
returns-then-standing-eq0 c = rw (stands-not _ c.args.position c.if-standing-eq0.true) c.put_all.ensures

pub returns : goal.returns
unfolding spaced
returns c =
    let a = c.args in
    rw (stands a.standing a.position c.if-standing-eq0.false)
    (word-then (decimal a.position) 32 c.put_number-a.ensures (rw c.from.ensures at c.put_number.ensures))
