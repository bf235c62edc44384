-- `tables::Table::two_good` meets its contract: an entry that begins behind those before it shares no sector with them, so names are left.
use Rattle.tables.proofs.Tables.{two-told}
use Rattle.tables.proofs.Table.two_good.Goals as goal

pub returns-else-word-behind : goal.returns-else-word-behind
returns-else-word-behind c = two-told _ _ _ c.named_once.ensures (c.requires.1 (rw c.word.ensures at c.if-word-behind.false))
