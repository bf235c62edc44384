-- `names::is_name` meets its contract: no bytes are no name; else what is asked of the bytes left decides, and then the first byte.
use mathlib.Core.Path.{◌≡◌}
use Prim.Native.Nat.{◌-◌}
use lib.ListN.{length, drop}
use Rattle.names.specs.Names.{rest_of_name}
use Rattle.names.proofs.Names.{left}
use Rattle.names.proofs.is_name.Given as goal

abbrev pub invariant-loop-k : goal.invariant-loop-k
invariant-loop-k l = rest_of_name (drop 1 l.x) ≡ left l.x l.ended l.k

abbrev pub decreases-loop-k : goal.decreases-loop-k
decreases-loop-k l = length l.x - l.k
