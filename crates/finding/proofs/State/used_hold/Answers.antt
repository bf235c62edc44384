-- A state that is used is read, any other holds nothing.
use mathlib.Core.Path.{◌∙◌}
use Rattle.finding.proofs.States.{hold-used, hold-idle}
use Rattle.finding.proofs.State.used_hold.Goals as goal

pub returns-then-is_used : goal.returns-then-is_used
returns-then-is_used c = c.hold.ensures ∙ hold-used c.args.self.now _ c.is_used.ensures c.if-is_used.true

pub returns-else-is_used : goal.returns-else-is_used
returns-else-is_used c = c.no_hold.ensures ∙ hold-idle c.args.self.now _ c.is_used.ensures c.if-is_used.false
