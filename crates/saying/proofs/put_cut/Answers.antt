-- `saying::put_cut` meets its contract: each word stands behind the one before it.
use Rattle.texts.specs.Texts.{spelled, decimal}
use Rattle.texts.proofs.Writing.{then, word-then}
use Rattle.saying.specs.Said.{fault_words}
use Rattle.saying.proofs.put_cut.Goals as goal

pub returns : goal.returns
unfolding spelled fault_words
returns c =
    then c.put_all-a.ensures (word-then (decimal c.args.k) 32 c.put_number-b.ensures c.put_all.ensures)
