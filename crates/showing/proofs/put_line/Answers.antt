-- `showing::put_line` meets its contract: what is kept is made ASCII where it stands, and the line's end put behind it.
use Rattle.geometry.specs.Bytes.{part}
use Rattle.texts.proofs.Writing.{then}
use Rattle.showing.proofs.Lines.{as-text, line-is}
use Rattle.showing.proofs.put_line.Goals as goal

pub returns : goal.returns
unfolding part
returns c =
    let a = c.args in
    let m = rw c.part.ensures at c.keeps-m.ensures in
    as-text (line-is a.out.now a.n _ m)
    (then c.translate-a.ensures c.put_byte.ensures)
