-- The first state that is the entry's, or else the first that is not in use.
use mathlib.Core.Path.{sym, ap, ◌∙◌}
use Rattle.std.specs.Option.{unwrap_or}
use Rattle.sessions.specs.Session.{bare}
use Rattle.finding.proofs.States.{length-bare, slot-found, slot-else}
use Rattle.finding.proofs.LentSession.slot.Goals as goal

pub returns-in-Some : goal.returns-in-Some
returns-in-Some c = slot-found (bare c.args.self.now).files c.args.i _ c.own.ensures c.in-Some.k c.in-Some.is

pub returns-in-None : goal.returns-in-None
returns-in-None c =
    let s = c.args.self.now in
    c.unwrap_or.ensures
    ∙ ap (unwrap_or c.unused.result) (c.states.ensures.0 ∙ sym (length-bare s))
    ∙ slot-else (bare s).files c.args.i _ c.own.ensures c.in-None.is _ c.unused.ensures
