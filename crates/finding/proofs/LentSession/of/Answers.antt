-- Bytes that are no session are one that is legal for no image.
use mathlib.Core.Path.{sym, ◌∙◌}
use Rattle.finding.proofs.States.{whole-is, whole-not}
use Rattle.finding.proofs.LentSession.of.Goals as goal

pub returns-then-is_session : goal.returns-then-is_session
returns-then-is_session c =
    whole-is _ c.args.bytes.now c.has_buffers-buffers.ensures (sym c.is_session.ensures ∙ c.if-is_session.true)

pub returns-else-is_session : goal.returns-else-is_session
returns-else-is_session c =
    whole-not _ c.args.bytes.now c.has_buffers-buffers.ensures (sym c.is_session.ensures ∙ c.if-is_session.false)
