-- It stands where its file does; bytes that are no session have none open.
use mathlib.Core.Path.{sym, ap, ◌∙◌}
use Rattle.sessions.specs.Session.{bare, stand, spot_of}
use Rattle.sessions.specs.declared.BufferedSession.{BufferedSession}
use Rattle.finding.proofs.Lent.{none-stands}
use Rattle.finding.proofs.States.{its-own}
use Rattle.finding.proofs.spot_in.Goals as goal

pub returns-in_err-session : goal.returns-in_err-session
returns-in_err-session c =
    let i = c.args.i in
    c.from_residual.ensures ∙ sym (none-stands i) ∙ ap (λ (s : BufferedSession). spot_of (bare s) i) c.in_err-session.ensures

pub returns : goal.returns
unfolding spot_of
returns c =
    let s = c.in_ok-session.session in
    let i = c.args.i in
    c.stand.ensures
    ∙ ap stand (c.file.ensures ∙ its-own s i _ c.slot.ensures)
    ∙ ap (λ (x : BufferedSession). spot_of (bare x) i) c.in_ok-session.ensures
