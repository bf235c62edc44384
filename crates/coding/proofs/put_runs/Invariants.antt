-- `coding::put_runs` meets its contract. The invariant: the code from i on, stored from at on, gives the whole code stored. That of the scan: k blanks
-- of the run are passed, the two that are seen already among them, and x does not end behind them.
use mathlib.Core.Path.{◌≡◌}
use mathlib.Core.Bool.{true}
use Prim.Native.Nat.{◌≤◌, ◌<◌, ◌+◌, ◌-◌, ◌*◌}
use lib.ListN.{length}
use lib.Seq.{sets}
use Rattle.geometry.specs.Sizes.{blank}
use Rattle.coding.specs.Encode.{runs_code}
use Rattle.coding.proofs.Writer.{Before, Scanned, Rest}
use Rattle.coding.proofs.put_runs.Given as goal

abbrev pub invariant-run : goal.invariant-run
invariant-run l = (l.k ≤ 127) × (l.i + l.k < length l.x) × (Before l.x (l.i + l.k) ≡ blank) × Scanned l.x true l.i l.k

abbrev pub decreases-run : goal.decreases-run
decreases-run l = length l.x - l.k

abbrev pub invariant-loop-i : goal.invariant-loop-i
invariant-loop-i l = (l.i ≤ length l.x) × (l.at ≤ 2 * l.i) × (length l.out ≡ length l.initial.out) × (l.at + length (Rest l.x l.i) ≡ length (runs_code 0 0 l.x)) × (sets l.out l.at (Rest l.x l.i) ≡ sets l.initial.out 0 (runs_code 0 0 l.x))

abbrev pub decreases-loop-i : goal.decreases-loop-i
decreases-loop-i l = length l.x - l.i
