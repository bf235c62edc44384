-- As many as are in use among those passed.
use Prim.Native.Nat.{◌≤◌}
use mathlib.Core.Path.{◌≡◌}
use lib.ListN.{take}
use Rattle.geometry.specs.Lists.{how_many}
use Rattle.sessions.specs.Session.{bare}
use Rattle.finding.proofs.LentSession.opened.Given as goal

abbrev pub invariant-loop-k : goal.invariant-loop-k
invariant-loop-k l = (l.n ≡ how_many (λ f. f.used) (take l.k (bare l.self).files)) × (l.n ≤ l.k)
