-- `typing::put_name` meets its contract: the letters, and behind them the blanks that are left of eight.
use Rattle.texts.proofs.Writing.{then}
use Rattle.typing.proofs.Names.{blanks-behind}
use Rattle.typing.proofs.put_name.Goals as goal

pub returns : goal.returns
returns c =
    let text = c.args.text.now in
    let p = c.put_all.ensures in
    rw (blanks-behind text) (then c.put_letters-a.ensures (rw c.part.ensures at p))
