-- `tables::Table::stands_apart` meets its contract: each entry that is passed keeps both rules of two with it.
use Prim.Native.Nat.{◌*◌}
use mathlib.Core.Path.{◌≡◌}
use mathlib.Core.Bool.{true}
use Rattle.geometry.specs.Lists.{every}
use Rattle.directory.specs.Grouped.{two_good}
use Rattle.tables.specs.Tables.{entry_in, entries_in}
use Rattle.tables.proofs.Table.stands_apart.Given as goal

abbrev pub invariant-loop-j : goal.invariant-loop-j
invariant-loop-j l = every (λ f. two_good f (entry_in l.self.width l.self.bytes.now (l.self.width * l.i))) (entries_in l.self.width l.j l.self.bytes.now) ≡ true
