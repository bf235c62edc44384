-- Behind the file's bytes, in a state with a buffer.
use mathlib.Core.Path.{◌∙◌}
use native.Mathlib.Omega.{arith}
use Rattle.finding.proofs.States.{held-room, hold-read, hold-none}
use Rattle.finding.proofs.State.hold.Goals as goal

pub is_set-requires : goal.is_set-requires
is_set-requires c =
    let s = c.self.inside in
    omega (arith, held-room s.buffers s.bytes.now c.self.invariant.0 c.if-self.true)

pub long_at-requires : goal.long_at-requires
long_at-requires c =
    let s = c.self.inside in
    omega (arith, held-room s.buffers s.bytes.now c.self.invariant.0 c.if-self.true)

pub is_set-requires-then-self : goal.is_set-requires-then-self
is_set-requires-then-self c =
    let s = c.self.inside in
    omega (arith, held-room s.buffers s.bytes.now c.self.invariant.0 c.if-self.true)

pub returns-then-self : goal.returns-then-self
returns-then-self c =
    let s = c.self.inside in
    rw (c.is_set.ensures, c.long_at.ensures, c.is_set-then-self.ensures)
    (hold-read s.buffers s.bytes.now _ c.self.view_is c.if-self.true)

pub returns-else-self : goal.returns-else-self
returns-else-self c =
    let s = c.self.inside in
    c.no_hold.ensures ∙ hold-none s.buffers s.bytes.now _ c.self.view_is c.if-self.false
