-- The number of the bytes.
use Rattle.storing.specs.Stored.{width, size_of, has_buffers}
use borrow.Author.Rules.{rules}
use Rattle.storing.proofs.has_buffers.Goals as goal

pub returns : goal.returns
unfolding has_buffers size_of width
returns c = search rules
