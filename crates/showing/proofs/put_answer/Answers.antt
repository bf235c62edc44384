-- `showing::put_answer` meets its contract: the number stands behind the word.
use Rattle.texts.specs.Texts.{spelled}
use Rattle.texts.proofs.Writing.{then}
use Rattle.showing.specs.Lines.{answer_line}
use Rattle.showing.proofs.put_answer.Goals as goal

pub returns : goal.returns
unfolding answer_line spelled
returns c = then c.put_all-a.ensures (rw (c.from-2.ensures, c.from.ensures) at c.put_number.ensures)
