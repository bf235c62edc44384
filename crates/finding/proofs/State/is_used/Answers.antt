-- Its first byte says so.
use mathlib.Core.Path.{◌∙◌}
use native.Mathlib.Omega.{arith}
use Rattle.finding.proofs.States.{room, used-read}
use Rattle.finding.proofs.State.is_used.Goals as goal

pub is_set-requires : goal.is_set-requires
is_set-requires c =
    let s = c.self.inside in
    omega (arith, room s.buffers s.bytes.now c.self.invariant.0)

pub returns : goal.returns
returns c =
    let s = c.self.inside in
    c.is_set.ensures ∙ used-read s.buffers s.bytes.now _ c.self.view_is
