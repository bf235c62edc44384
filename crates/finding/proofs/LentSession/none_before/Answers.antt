-- What is left of the states before it decides.
use mathlib.Core.Path.{◌≡◌, refl, sym, ap, ◌∙◌}
use mathlib.Core.Bool.{not}
use native.Mathlib.Omega.{arith}
use lib.ListN.{length}
use Rattle.sessions.specs.Session.{idle, bare}
use Rattle.finding.proofs.Lent.{before_on, before-off, before-end}
use Rattle.finding.proofs.States.{length-bare, its-of}
use Rattle.finding.proofs.LentSession.none_before.Goals as goal

pub loop-j-init : goal.loop-j-init
loop-j-init c = refl

pub returns-then-is_of : goal.returns-then-is_of
returns-then-is_of c =
    let s = c.args.self.now in
    let j = c.loop-j.j in
    let n : length (bare s).files ≡ length s.files = length-bare s in
    let its = its-of s j _ c.state.ensures c.args.i _ c.is_of.ensures ∙ c.if-is_of.true in
    sym (c.loop-j.invariant ∙ before-off _ (bare s).files c.args.k j (omega arith) idle (omega arith) (ap not its))

pub loop-j-preserved : goal.loop-j-preserved
loop-j-preserved c =
    let s = c.args.self.now in
    let j = c.loop-j.j in
    let n : length (bare s).files ≡ length s.files = length-bare s in
    let other = its-of s j _ c.state.ensures c.args.i _ c.is_of.ensures ∙ c.if-is_of.false in
    c.loop-j.invariant ∙ before_on _ (bare s).files c.args.k j (omega arith) idle (omega arith) (ap not other)

pub returns : goal.returns
returns c =
    let s = c.args.self.now in
    let n : length (bare s).files ≡ length s.files = length-bare s in
    sym (c.loop-j.invariant ∙ before-end _ (bare s).files c.args.k c.loop-j.j (omega arith) (omega arith))
