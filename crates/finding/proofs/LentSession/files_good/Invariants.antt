-- What is done of the states keeps both rules.
use mathlib.Core.Path.{◌≡◌}
use mathlib.Core.Bool.{true}
use Rattle.geometry.proofs.Front.{Front}
use Rattle.sessions.specs.Session.{bare, of_other}
use Rattle.sessions.specs.Grouped.{file_good}
use Rattle.finding.proofs.LentSession.files_good.Given as goal

abbrev pub invariant-loop-k : goal.invariant-loop-k
invariant-loop-k l = Front (file_good l.self.table) of_other (bare l.self).files l.k ≡ true
