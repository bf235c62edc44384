-- The state of that number, or the idle one.
use mathlib.Core.Path.{ap, ◌∙◌}
use native.Mathlib.Omega.{arith}
use Rattle.sessions.specs.declared.BufferedFile.{BufferedFile}
use Rattle.finding.specs.Lent.{if_used}
use Rattle.finding.proofs.States.{none-used}
use Rattle.finding.proofs.LentSession.file.Goals as goal

pub returns-then-k-states : goal.returns-then-k-states
returns-then-k-states c = c.used_file.ensures ∙ ap (λ (x : BufferedFile). if_used x.file) c.state.ensures

pub returns-else-k-states : goal.returns-else-k-states
returns-else-k-states c = c.idle.ensures ∙ none-used c.args.self.now.files c.args.k (omega (arith, c.states.ensures))
