-- `tables::Table::named_once` meets its contract: each entry that is passed has another name.
use Prim.Native.Nat.{◌*◌}
use mathlib.Core.Path.{◌≡◌}
use mathlib.Core.Bool.{true}
use Rattle.geometry.specs.Lists.{every}
use Rattle.directory.specs.Rules.{names_differ}
use Rattle.tables.specs.Tables.{entry_in, entries_in}
use Rattle.tables.proofs.Table.named_once.Given as goal

abbrev pub invariant-loop-j : goal.invariant-loop-j
invariant-loop-j l = every (λ f. names_differ f (entry_in l.self.width l.self.bytes.now (l.self.width * l.i))) (entries_in l.self.width l.j l.self.bytes.now) ≡ true
