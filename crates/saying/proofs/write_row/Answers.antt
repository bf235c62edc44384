-- `saying::write_row` meets its contract: each word stands behind the one before it.
use Rattle.texts.specs.Texts.{decimal, spaced}
use Rattle.texts.proofs.Writing.{word-then}
use Rattle.saying.specs.Said.{row_line}
use Rattle.saying.proofs.Lines.{before}
use Rattle.saying.proofs.write_row.Goals as goal

pub returns : goal.returns
unfolding spaced row_line
returns c =
    let a = c.args in
    rw (before (decimal a.p.sum) a.p.standing a.p.position)
    (word-then (decimal a.n) 32 c.put_number-b.ensures
    (word-then (decimal a.p.number) 32 (rw c.from.ensures at c.put_number-c.ensures)
    (word-then (decimal a.p.sum) 32 c.put_number-d.ensures c.put_stand.ensures)))
