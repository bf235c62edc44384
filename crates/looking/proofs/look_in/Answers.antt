-- What is seen is the entry and the state of the session that the bytes are.
use mathlib.Core.Path.{ap, ◌∙◌}
use Rattle.finding.specs.declared.Seen.{Seen}
use Rattle.looking.specs.Looks.{looked_by}
use Rattle.looking.proofs.Judged.{looked}
use Rattle.looking.proofs.look_in.Goals as goal

pub returns : goal.returns
returns c =
    let a = c.args in
    looked a.image.now a.session.now a.i a.g _ (c.look_seen.ensures ∙ ap (λ (x : Seen). looked_by x a.g) c.find_in.ensures)
