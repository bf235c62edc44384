-- The state, and a fresh buffer, if it has one.
use mathlib.Core.Path.{ap, ◌∙◌}
use Prim.Native.Nat.{◌+◌}
use Rattle.geometry.specs.Bytes.{lay}
use Rattle.storing.specs.Stored.{has_buffers, lay_state}
use Rattle.sessions.specs.declared.BufferedFile.{BufferedFile}
use Rattle.storing.proofs.Laid.{fresh-put, plain-fresh, past-fresh}
use Rattle.stating.proofs.put_fresh.Goals as goal

pub returns-then-k-lt-MOST_OPEN : goal.returns-then-k-lt-MOST_OPEN
returns-then-k-lt-MOST_OPEN c =
    let a = c.args in
    fresh-put a.b.now a.k a.f _ (c.put_state.ensures ∙ ap (lay_state (has_buffers a.b.now) a.b.now a.k a.f) c.no_hold.ensures) c.has_buffers.result c.has_buffers.ensures c.if-has_buffers.true c.if-k-lt-MOST_OPEN.true c.state_place.result c.state_place.ensures.0 _ (c.lay.ensures ∙ ap (λ (x : BufferedFile). lay c.put_state.new.b (c.state_place.result + 36) x.buffer) c.fresh-state.ensures)

pub returns-else-k-lt-MOST_OPEN : goal.returns-else-k-lt-MOST_OPEN
returns-else-k-lt-MOST_OPEN c =
    let a = c.args in
    past-fresh a.b.now a.k a.f _ (c.put_state.ensures ∙ ap (lay_state (has_buffers a.b.now) a.b.now a.k a.f) c.no_hold.ensures) c.has_buffers.result c.has_buffers.ensures c.if-k-lt-MOST_OPEN.false

pub returns-else-has_buffers : goal.returns-else-has_buffers
returns-else-has_buffers c =
    let a = c.args in
    plain-fresh a.b.now a.k a.f _ (c.put_state.ensures ∙ ap (lay_state (has_buffers a.b.now) a.b.now a.k a.f) c.no_hold.ensures) c.has_buffers.result c.has_buffers.ensures c.if-has_buffers.false
