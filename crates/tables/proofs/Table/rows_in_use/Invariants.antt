-- `tables::Table::rows_in_use` meets its contract: a last entry that is zero is left out, and the table is as good as with it.
use Prim.Native.Nat.{ℕ}
use mathlib.Core.Path.{◌≡◌}
use Rattle.directory.specs.Rules.{table_good}
use Rattle.tables.specs.Tables.{entries_in}
use Rattle.tables.proofs.Table.rows_in_use.Given as goal

abbrev pub invariant-loop-i : goal.invariant-loop-i
invariant-loop-i l = (N : ℕ) → table_good N (entries_in l.self.width l.self.rows l.self.bytes.now) ≡ table_good N (entries_in l.self.width l.i l.self.bytes.now)
