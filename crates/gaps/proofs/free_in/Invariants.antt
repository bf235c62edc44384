-- `gaps::free_in` meets its contract: no entry passed is free.
use Prim.Native.Nat.{ℕ, ◌<◌}
use mathlib.Core.Path.{◌≡◌}
use mathlib.Core.Bool.{false}
use Rattle.directory.specs.Entries.{is_free, entry_at}
use Rattle.tables.specs.Table.{rows_of}
use Rattle.gaps.proofs.free_in.Given as goal

abbrev pub invariant-loop-i : goal.invariant-loop-i
invariant-loop-i l = (k : ℕ) → k < l.i → is_free (entry_at (rows_of l.t) k) ≡ false
