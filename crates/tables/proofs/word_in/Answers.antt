-- `tables::word_in` meets its contract: the code is the definition.
use native.Mathlib.Omega.{arith}
use Rattle.geometry.specs.Bytes.{word_at}
use Rattle.tables.proofs.word_in.Goals as goal

pub returns : goal.returns
unfolding word_at
returns c = omega (arith, c.from_be_bytes.ensures)
