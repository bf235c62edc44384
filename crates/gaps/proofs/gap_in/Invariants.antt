-- `gaps::gap_in` meets its contract: at no sector passed do so many free sectors stand, and a sweep goes on unless nothing is in the way.
use Prim.Native.Nat.{ℕ, suc, ◌-◌, ◌≤◌, ◌<◌}
use mathlib.Core.Path.{◌≡◌}
use mathlib.Core.Bool.{false}
use Rattle.tables.specs.Table.{rows_of}
use Rattle.gaps.specs.Gaps.{is_taken, stands_free}
use Rattle.gaps.proofs.gap_in.Given as goal

abbrev pub invariant-loop-p : goal.invariant-loop-p
invariant-loop-p l = (1 ≤ l.p) × (l.p ≤ 131070) × ((q : ℕ) → q < l.p → stands_free (is_taken (rows_of l.t)) l.sectors l.n q ≡ false)

abbrev pub decreases-loop-p : goal.decreases-loop-p
decreases-loop-p l = suc l.sectors - l.p
