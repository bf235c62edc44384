-- What is left of the states decides.
use mathlib.Core.Path.{◌≡◌}
use lib.ListN.{drop}
use Rattle.geometry.specs.Lists.{every}
use Rattle.sessions.specs.Session.{held_good}
use Rattle.finding.proofs.LentSession.holds_good.Given as goal

abbrev pub invariant-loop-k : goal.invariant-loop-k
invariant-loop-k l =
    let s = l.self in
    every (held_good s.table) s.files ≡ every (held_good s.table) (drop l.k s.files)
