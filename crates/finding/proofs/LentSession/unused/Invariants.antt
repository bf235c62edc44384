-- None passed is the one.
use Prim.Native.Nat.{ℕ, ◌<◌}
use mathlib.Core.Path.{◌≡◌}
use mathlib.Core.Bool.{false, not}
use lib.ListN.{get_or}
use Rattle.sessions.specs.Session.{idle, bare}
use Rattle.finding.proofs.LentSession.unused.Given as goal

abbrev pub invariant-loop-k : goal.invariant-loop-k
invariant-loop-k l = (j : ℕ) → j < l.k → not (get_or (bare l.self).files j idle).used ≡ false
