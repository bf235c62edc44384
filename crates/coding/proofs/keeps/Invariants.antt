-- `coding::keeps` meets its contract. The invariant: what is kept of the first e + 1 characters is what is kept of x.
use mathlib.Core.Path.{◌≡◌}
use Prim.Native.Nat.{◌<◌, ◌+◌}
use lib.ListN.{length}
use Rattle.coding.specs.Encode.{keeps}
use Rattle.coding.proofs.keeps.Given as goal

abbrev pub invariant-loop-e : goal.invariant-loop-e
invariant-loop-e l = (l.e < length l.x) × (keeps (l.e + 1) l.x ≡ keeps (length l.x) l.x)

abbrev pub decreases-loop-e : goal.decreases-loop-e
decreases-loop-e l = l.e
