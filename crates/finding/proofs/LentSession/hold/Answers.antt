-- The state of that number, or a fresh one.
use mathlib.Core.Path.{ap, ◌∙◌}
use native.Mathlib.Omega.{arith}
use Rattle.sessions.specs.declared.BufferedFile.{BufferedFile}
use Rattle.storing.specs.Stored.{hold_of}
use Rattle.finding.specs.Lent.{in_use, state_at}
use Rattle.finding.proofs.States.{none-held}
use Rattle.finding.proofs.LentSession.hold.Goals as goal

pub returns-then-k-states : goal.returns-then-k-states
unfolding state_at
returns-then-k-states c = c.used_hold.ensures ∙ ap (λ (x : BufferedFile). hold_of (in_use x)) c.state.ensures

pub returns-else-k-states : goal.returns-else-k-states
returns-else-k-states c = c.no_hold.ensures ∙ none-held c.args.self.now.files c.args.k (omega (arith, c.states.ensures))
