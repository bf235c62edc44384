-- None passed is the one.
use Prim.Native.Nat.{ℕ, ◌<◌}
use mathlib.Core.Path.{◌≡◌}
use mathlib.Core.Bool.{false}
use lib.ListN.{get_or}
use Rattle.sessions.specs.Session.{idle, bare, is_of}
use Rattle.finding.proofs.LentSession.own.Given as goal

abbrev pub invariant-loop-k : goal.invariant-loop-k
invariant-loop-k l = (j : ℕ) → j < l.k → is_of l.i (get_or (bare l.self).files j idle) ≡ false
