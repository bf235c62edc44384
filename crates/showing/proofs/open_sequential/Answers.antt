-- `showing::open_sequential` meets its contract: a random file stops it, and another is opened.
use mathlib.Core.Path.{sym, ◌∙◌}
use mathlib.Core.List.{[]}
use Rattle.requests.specs.Codes.{codes, asked_for}
use Rattle.requests.specs.declared.Request.TheVariants.{Open}
use Rattle.asking.proofs.Asked.{told-by}
use Rattle.showing.proofs.Opening.{random-stops, opens, shut}
use Rattle.showing.proofs.open_sequential.Goals as goal

pub returns-then-field_in-clause-leaves : goal.returns-then-field_in-clause-leaves
returns-then-field_in-clause-leaves c = sym (random-stops _ _ _ (sym c.field_in.ensures ∙ c.if-field_in.true))

pub returns-in-Done-clause-leaves : goal.returns-in-Done-clause-leaves
unfolding asked_for codes
returns-in-Done-clause-leaves c =
    let a = c.args in
    let t = told-by a.image.now a.session.now a.i Open [] [] _ _ _ _ c.request.ensures in
    opens _ _ _ _ (λ h. c.if-field_in.false (c.field_in.ensures ∙ h)) c.field_in-length.ensures _ _ _ _ t c.in-Done.is

pub returns-in_default-clause-leaves : goal.returns-in_default-clause-leaves
unfolding asked_for codes
returns-in_default-clause-leaves c =
    let a = c.args in
    let t = told-by a.image.now a.session.now a.i Open [] [] _ _ _ _ c.request.ensures in
    shut _ _ _ _ (λ h. c.if-field_in.false (c.field_in.ensures ∙ h)) c.field_in-length.ensures _ _ _ _ t c.in_default.not-Done
