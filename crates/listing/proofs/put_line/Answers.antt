-- `listing::put_line` meets its contract: each word stands behind the one before it.
use Rattle.texts.specs.Texts.{decimal, spaced}
use Rattle.listing.specs.Listing.{name_text, line}
use Rattle.texts.proofs.Writing.{word-then}
use Rattle.listing.proofs.put_line.Goals as goal

pub returns : goal.returns
unfolding spaced line
returns c =
    let a = c.args in
    word-then (decimal a.i) 32 c.put_number-a.ensures (word-then (name_text a.e.name) 32 c.put_name-b.ensures (word-then (decimal a.e.kind) 32 c.put_number-c.ensures c.put_sizes.ensures))
