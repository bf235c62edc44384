-- `tables::Table::find` meets its contract: no entry passed matches.
use Prim.Native.Nat.{ℕ, ◌<◌}
use mathlib.Core.Path.{◌≡◌}
use mathlib.Core.Bool.{false}
use lib.ListN.{get_or}
use Rattle.directory.specs.Entries.{free_entry}
use Rattle.directory.specs.Search.{matches}
use Rattle.tables.specs.Tables.{entries_in}
use Rattle.tables.proofs.Table.find.Given as goal

abbrev pub invariant-loop-i : goal.invariant-loop-i
invariant-loop-i l = (k : ℕ) → k < l.i → matches l.name (get_or (entries_in l.self.width l.self.rows l.self.bytes.now) k free_entry) ≡ false
