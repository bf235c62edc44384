-- There are four, in every session.
use mathlib.Core.Path.{refl, sym, ap, ◌∙◌}
use lib.ListN.{length}
use Rattle.sessions.specs.declared.BufferedSession.{BufferedSession}
use Rattle.finding.proofs.States.{length-whole}
use Rattle.finding.proofs.LentSession.states.Goals as goal

pub returns : goal.returns
returns c =
    let s = c.self.inside in
    (sym (ap (λ (x : BufferedSession). length x.files) (sym c.self.view_is) ∙ length-whole s.buffers s.bytes.now), refl)
