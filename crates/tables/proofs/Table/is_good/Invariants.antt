-- `tables::Table::is_good` meets its contract: what is passed of the table keeps every rule, and the greatest end of an extent is carried along.
use Rattle.tables.proofs.Tables.{Passed}
use Rattle.tables.proofs.Table.is_good.Given as goal

abbrev pub invariant-loop-i : goal.invariant-loop-i
invariant-loop-i l = Passed l.self.width l.n l.self.bytes.now l.behind l.i
