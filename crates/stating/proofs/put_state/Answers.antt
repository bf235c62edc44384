-- The state in one part, or with what it holds in two.
use Rattle.storing.proofs.Laid.{state-past, plain-put, held-put}
use Rattle.stating.proofs.put_state.Goals as goal

pub returns-then-buffers : goal.returns-then-buffers
returns-then-buffers c =
    let a = c.args in
    held-put a.b.now a.k a.f c.if-k-lt-MOST_OPEN.true c.has_buffers-buffers.result c.has_buffers-buffers.ensures c.state_place-at.result c.state_place-at.ensures.0 _ _ c.file_bytes-x.ensures c.lay.ensures c.if-buffers.true a.h _ _ c.hold_bytes-y.ensures c.lay-then-buffers.ensures

pub returns-else-buffers : goal.returns-else-buffers
returns-else-buffers c =
    let a = c.args in
    plain-put a.b.now a.k a.f c.if-k-lt-MOST_OPEN.true c.has_buffers-buffers.result c.has_buffers-buffers.ensures c.state_place-at.result c.state_place-at.ensures.0 _ _ c.file_bytes-x.ensures c.lay.ensures c.if-buffers.false a.h

pub returns-else-k-lt-MOST_OPEN : goal.returns-else-k-lt-MOST_OPEN
returns-else-k-lt-MOST_OPEN c =
    let a = c.args in
    state-past a.b.now a.k a.f a.h c.if-k-lt-MOST_OPEN.false
