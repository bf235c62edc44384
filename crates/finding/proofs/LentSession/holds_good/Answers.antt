-- What is left of the states decides.
use mathlib.Core.Path.{refl, sym, ap, ◌∙◌}
use native.Mathlib.Omega.{arith}
use Rattle.geometry.proofs.Left.{every-on, every-off, every-end}
use Rattle.sessions.specs.Session.{idle, fresh, held_good}
use Rattle.finding.proofs.States.{hold-told, hold-untold}
use Rattle.finding.proofs.LentSession.holds_good.Goals as goal
use Rattle.finding.proofs.LentSession.holds_good.Goals.{then-is_used-h+else-not-hold_good, else-is_used-h}

pub loop-k-init : goal.loop-k-init
loop-k-init c = refl

pub returns-then-not-hold_good : goal.returns-then-not-hold_good
returns-then-not-hold_good c =
    let s = c.args.self.now in
    let k = c.loop-k.k in
    let bad = hold-told s.table c.state-s.result _ c.is_used.ensures _ c.hold-h.ensures _ _ _ c.entry.ensures c.entry-e.ensures c.hold_good.ensures c.if-is_used-h.true ∙ c.if-not-hold_good.true in
    sym (c.loop-k.invariant ∙ every-off _ s.files k (fresh idle) (omega (arith, c.states-k-end.ensures)) (ap (held_good s.table) (sym c.state-s.ensures) ∙ bad))

pub loop-k-preserved : goal.loop-k-preserved
loop-k-preserved c =
    let s = c.args.self.now in
    let k = c.loop-k.k in
    let on = every-on (held_good s.table) s.files k (fresh idle) (omega (arith, c.states-k-end.ensures)) in
    let at = ap (held_good s.table) (sym c.state-s.ensures) in
    c.loop-k.invariant ∙ elim c.if-is_used-h.branch [
      | then-is_used-h+else-not-hold_good w ↦ on (at ∙ hold-told s.table c.state-s.result _ c.is_used.ensures _ c.hold-h.ensures _ _ _ w.entry.ensures w.entry-e.ensures w.hold_good.ensures w.if-is_used-h.true ∙ w.if-not-hold_good.false)
      | else-is_used-h w ↦ on (at ∙ hold-untold s.table c.state-s.result _ c.is_used.ensures _ c.hold-h.ensures w.if-is_used-h.false)
    ]

pub returns : goal.returns
returns c =
    let s = c.args.self.now in
    sym (c.loop-k.invariant ∙ every-end (held_good s.table) s.files c.loop-k.k (omega (arith, c.states-k-end.ensures)))
