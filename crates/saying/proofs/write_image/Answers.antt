-- `saying::write_image` meets its contract: each word stands behind the one before it.
use Rattle.texts.specs.Texts.{spelled, decimal, spaced}
use Rattle.texts.proofs.Writing.{then, word-then}
use Rattle.saying.specs.Said.{image_line}
use Rattle.saying.proofs.write_image.Goals as goal

pub returns : goal.returns
unfolding spelled spaced image_line
returns c =
    then c.put_all-a.ensures (word-then (decimal c.args.s.words) 32 c.put_number-b.ensures c.put_number.ensures)
