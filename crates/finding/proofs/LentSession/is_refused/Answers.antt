-- The byte behind the states says so.
use mathlib.Core.Path.{ap, ◌∙◌}
use Prim.Native.Nat.{ℕ, ◌+◌, ◌*◌}
use native.Mathlib.Omega.{arith}
use lib.ListN.{get_or}
use Rattle.sessions.specs.declared.BufferedSession.{BufferedSession}
use Rattle.storing.specs.Numbers.{is_set}
use Rattle.storing.specs.Stored.{saying_in}
use Rattle.finding.proofs.States.{session-room}
use Rattle.finding.proofs.LentSession.is_refused.Goals as goal

pub is_set-requires : goal.is_set-requires
is_set-requires c =
    let s = c.self.inside in
    omega (arith, session-room s.buffers s.bytes.now c.self.invariant, c.state_width.ensures.0)

pub returns : goal.returns
unfolding saying_in
returns c =
    let s = c.self.inside in
    c.is_set.ensures
    ∙ ap (λ (w : ℕ). is_set (get_or s.bytes.now (396 + w * 4) 0)) c.state_width.ensures.0
    ∙ ap (λ (x : BufferedSession). x.says.refused) c.self.view_is
