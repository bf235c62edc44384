-- The field of the session's entry; 0 where the bytes are no session.
use Rattle.telling.proofs.Told.{field-none, field_told}
use Rattle.telling.proofs.field_in.Goals as goal

pub returns-then-is_session : goal.returns-then-is_session
returns-then-is_session c = field_told _ _ _ c.has_buffers.ensures c.is_session.ensures _ _ c.if-is_session.true _ _ c.entry_in.ensures c.field_of.ensures

pub returns-else-is_session : goal.returns-else-is_session
returns-else-is_session c = field-none _ _ _ c.has_buffers.ensures c.is_session.ensures _ _ c.if-is_session.false
