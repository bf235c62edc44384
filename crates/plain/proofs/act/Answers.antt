-- `plain::act` meets its contract: what is moved straight is what is done in the image.
use mathlib.Core.Path.{◌≡◌, ap, ◌∙◌}
use Rattle.steps.specs.Effects.{Bench}
use Rattle.sessions.specs.Session.{idle, fresh}
use Rattle.straight.specs.Moving.{bench}
use borrow.Author.Rules.{rules}
use Rattle.plain.specs.Plain.{acted_with}
use Rattle.plain.proofs.Acts.{acted}
use Rattle.plain.proofs.act.Goals as goal

pub returns : goal.returns
returns c =
    let a = c.args in
    let p : c.act.new.m.image.now ≡ acted_with a.q a.i a.e a.f a.given.now a.code.now a.image.now =
    ap (λ (w : Bench). w.image) c.act.ensures.0 ∙ acted a.i a.e a.f a.given.now a.code.now 0 (bench a.image.now (fresh idle)) a.q in
    search rules
