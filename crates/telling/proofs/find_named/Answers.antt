-- What the search tells, in a session; else 12.
use mathlib.Core.Path.{ap, ◌∙◌}
use Rattle.telling.specs.Told.{told_of}
use Rattle.telling.proofs.Told.{found_none, found-told}
use Rattle.telling.proofs.find_named.Goals as goal

pub returns-then-not-is_session : goal.returns-then-not-is_session
returns-then-not-is_session c = found_none _ _ _ c.has_buffers.ensures c.is_session.ensures _ c.if-not-is_session.true

pub returns : goal.returns
returns c = ap told_of c.ok_or.ensures.value ∙ found-told _ _ _ c.has_buffers.ensures c.is_session.ensures _ c.if-not-is_session.false _ c.search_in.ensures
