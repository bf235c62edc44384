-- `gaps::swept` meets its contract: what is left of the table decides.
use Prim.Native.Nat.{◌≤◌}
use mathlib.Core.Path.{◌≡◌}
use lib.ListN.{drop}
use Rattle.tables.specs.Table.{rows_of}
use Rattle.gaps.specs.Sweep.{swept}
use Rattle.gaps.proofs.swept.Given as goal

abbrev pub invariant-loop-i : goal.invariant-loop-i
invariant-loop-i l = (swept l.n l.p (rows_of l.t) ≡ swept l.n l.q (drop l.i (rows_of l.t))) × (l.q ≤ 131070)
