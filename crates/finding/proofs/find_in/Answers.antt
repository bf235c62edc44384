-- Bytes that are no session are one that is legal for no image.
use mathlib.Core.Path.{refl, ap, ◌∙◌}
use Rattle.sessions.specs.declared.BufferedSession.{BufferedSession}
use Rattle.finding.specs.Lent.{seen_of}
use Rattle.finding.proofs.Lent.{none_seen}
use Rattle.finding.proofs.find_in.Goals as goal

pub returns-in_default : goal.returns-in_default
returns-in_default c =
    let a = c.args in
    c.unseen.ensures ∙ none_seen a.image.now a.i _ refl ∙ ap (λ (s : BufferedSession). seen_of a.image.now s a.i) c.in_default.ensures
