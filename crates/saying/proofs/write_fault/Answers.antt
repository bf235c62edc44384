-- `saying::write_fault` meets its contract: each word stands behind the one before it.
use Rattle.texts.specs.Texts.{spelled, decimal}
use Rattle.texts.proofs.Writing.{then, word-then}
use Rattle.saying.specs.Said.{fault_line}
use Rattle.saying.proofs.write_fault.Goals as goal

pub returns : goal.returns
unfolding spelled fault_line
returns c =
    then c.put_all-a.ensures (word-then (decimal c.args.n) 58 c.put_number-b.ensures c.put_fault.ensures)
