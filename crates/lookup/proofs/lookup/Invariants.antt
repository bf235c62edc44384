-- `lookup::lookup` meets its contract. The invariant: no entry below the index matches.
use mathlib.Core.Path.{◌≡◌}
use mathlib.Core.Bool.{false}
use mathlib.Core.List.{[]}
use Prim.Native.Nat.{ℕ, ◌<◌}
use lib.ListN.{get_or}
use Rattle.directory.specs.declared.Entry.{Entry}
use Rattle.directory.specs.Search.{matches}
use Rattle.lookup.proofs.lookup.Given as goal

-- what stands past the end of a slice of entries
abbrev blank : Entry
blank = record { name = []; kind = 0; length = 0; first = 0; sectors = 0; count = 0; flags = 0 }

abbrev pub invariant-loop-i : goal.invariant-loop-i
invariant-loop-i l = (j : ℕ) → j < l.i → matches l.name (get_or l.entries j blank) ≡ false
