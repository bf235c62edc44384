-- `gaps::all_free` meets its contract: each entry passed is free.
use Prim.Native.Nat.{ℕ, ◌<◌}
use mathlib.Core.Path.{◌≡◌}
use mathlib.Core.Bool.{true}
use Rattle.directory.specs.Entries.{is_free, entry_at}
use Rattle.tables.specs.Table.{rows_of}
use Rattle.gaps.proofs.all_free.Given as goal

abbrev pub invariant-loop-i : goal.invariant-loop-i
invariant-loop-i l = (k : ℕ) → k < l.i → is_free (entry_at (rows_of l.t) k) ≡ true
