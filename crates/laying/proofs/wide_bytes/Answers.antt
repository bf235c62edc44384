-- `laying::wide_bytes` meets its contract: the code is the definition.
use Rattle.geometry.specs.Bytes.{word}
use Rattle.tables.specs.Numbers.{long}
use Rattle.tables.specs.Tables.{count_of, entry_of}
use Rattle.laying.proofs.wide_bytes.Goals as goal

pub returns : goal.returns
unfolding entry_of count_of long word
returns c = c.twenty_two_bytes.ensures
