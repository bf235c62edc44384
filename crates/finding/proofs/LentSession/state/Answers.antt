-- States stand behind one another, and each is read in its own bytes as at its place.
use mathlib.Core.Path.{ap, ◌∙◌}
use mathlib.Core.List.{List}
use native.Mathlib.Omega.{arith}
use Prim.Native.Nat.{ℕ, ◌<◌}
use lib.ListN.{get_or}
use Rattle.sessions.specs.Session.{idle, fresh}
use Rattle.sessions.specs.declared.BufferedSession.{BufferedSession}
use Rattle.storing.specs.Stored.{state_in}
use Rattle.finding.proofs.States.{below, least, inside, its-is, its-length, its-state, its-flags}
use Rattle.finding.proofs.LentSession.state.Goals as goal

pub overflow_mul-at : goal.overflow_mul-at
overflow_mul-at c =
    let s = c.self.inside in
    let w = c.state_width-w in
    omega (arith, least s.buffers s.bytes.now c.self.invariant w.result w.ensures.0 c.args.k (below s.buffers s.bytes.now _ c.self.view_is c.args.k c.requires), w.ensures.1)

pub overflow_add-at : goal.overflow_add-at
overflow_add-at c =
    let s = c.self.inside in
    let w = c.state_width-w in
    omega (arith, least s.buffers s.bytes.now c.self.invariant w.result w.ensures.0 c.args.k (below s.buffers s.bytes.now _ c.self.view_is c.args.k c.requires), w.ensures.1)

pub overflow_add-result : goal.overflow_add-result
overflow_add-result c =
    let s = c.self.inside in
    let w = c.state_width-w in
    omega (arith, least s.buffers s.bytes.now c.self.invariant w.result w.ensures.0 c.args.k (below s.buffers s.bytes.now _ c.self.view_is c.args.k c.requires), w.ensures.1)

pub slice_bounds-result-end : goal.slice_bounds-result-end
slice_bounds-result-end c =
    let s = c.self.inside in
    inside s.buffers s.bytes.now c.self.invariant _ c.state_width-w.ensures.0 c.args.k (below s.buffers s.bytes.now _ c.self.view_is c.args.k c.requires)

pub invariant_of-result : goal.invariant_of-result
invariant_of-result c =
    let s = c.self.inside in
    let w = c.state_width-w in
    let h : c.args.k < 4 = below s.buffers s.bytes.now _ c.self.view_is c.args.k c.requires in
    let n = its-length s.buffers s.bytes.now c.self.invariant w.result w.ensures.0 c.args.k h in
    rw (its-is s.buffers s.bytes.now c.self.invariant w.result w.ensures.0 c.args.k h)
    (omega (arith, n, w.ensures.0), its-flags s.buffers s.bytes.now c.self.invariant w.result w.ensures.0 c.args.k h)

pub returns : goal.returns
returns c =
    let s = c.self.inside in
    let w = c.state_width-w in
    let h : c.args.k < 4 = below s.buffers s.bytes.now _ c.self.view_is c.args.k c.requires in
    ap (λ (b : List ℕ). state_in s.buffers b 0) (its-is s.buffers s.bytes.now c.self.invariant w.result w.ensures.0 c.args.k h)
    ∙ its-state s.buffers s.bytes.now c.self.invariant w.result w.ensures.0 c.args.k h
    ∙ ap (λ (x : BufferedSession). get_or x.files c.args.k (fresh idle)) c.self.view_is
