-- A state that is used is read, any other is idle.
use mathlib.Core.Path.{◌∙◌}
use Rattle.finding.proofs.States.{file-used, file-idle}
use Rattle.finding.proofs.State.used_file.Goals as goal

pub returns-then-is_used : goal.returns-then-is_used
returns-then-is_used c = c.file.ensures ∙ file-used c.args.self.now _ c.is_used.ensures c.if-is_used.true

pub returns-else-is_used : goal.returns-else-is_used
returns-else-is_used c = c.idle.ensures ∙ file-idle c.args.self.now _ c.is_used.ensures c.if-is_used.false
