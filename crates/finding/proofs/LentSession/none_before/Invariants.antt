-- What is left of the states before it decides.
use mathlib.Core.Path.{◌≡◌}
use mathlib.Core.Bool.{not}
use lib.ListN.{take, drop}
use Rattle.geometry.specs.Lists.{every}
use Rattle.sessions.specs.Session.{bare, is_of}
use Rattle.finding.proofs.LentSession.none_before.Given as goal

abbrev pub invariant-loop-j : goal.invariant-loop-j
invariant-loop-j l =
    let fs = take l.k (bare l.self).files in
    every (λ f. not (is_of l.i f)) fs ≡ every (λ f. not (is_of l.i f)) (drop l.j fs)
