-- The eight bytes behind the first.
use mathlib.Core.Path.{◌∙◌}
use native.Mathlib.Omega.{arith}
use Rattle.finding.proofs.States.{room, entry-read}
use Rattle.finding.proofs.State.entry.Goals as goal

pub wide_at-requires : goal.wide_at-requires
wide_at-requires c =
    let s = c.self.inside in
    omega (arith, room s.buffers s.bytes.now c.self.invariant.0)

pub returns : goal.returns
returns c =
    let s = c.self.inside in
    c.wide_at.ensures ∙ entry-read s.buffers s.bytes.now _ c.self.view_is
