-- `listing::put_sizes` meets its contract: each word stands behind the one before it.
use Rattle.texts.specs.Texts.{decimal, spaced}
use Rattle.texts.proofs.Writing.{word-then}
use Rattle.listing.proofs.put_sizes.Goals as goal

pub returns : goal.returns
unfolding spaced
returns c =
    let e = c.args.e in
    word-then (decimal e.length) 32 c.put_number-a.ensures (word-then (decimal e.first) 32 c.put_number-b.ensures (word-then (decimal e.sectors) 32 c.put_number-c.ensures (word-then (decimal e.count) 32 c.put_number-d.ensures c.put_number.ensures)))
