-- None passed is the one.
use mathlib.Core.Path.{◌≡◌, ap, ◌∙◌}
use mathlib.Core.Bool.{not}
use native.Mathlib.Omega.{arith}
use lib.ListN.{length}
use borrow.Author.Count.{below_more}
use Rattle.geometry.proofs.Tests.{first-is}
use Rattle.sessions.specs.Session.{idle, bare}
use Rattle.finding.proofs.States.{length-bare, its-used}
use Rattle.finding.proofs.LentSession.unused.Goals as goal

pub loop-k-init : goal.loop-k-init
loop-k-init c = λ j l. absurd (omega arith)

pub returns-then-not-is_used : goal.returns-then-not-is_used
returns-then-not-is_used c =
    let s = c.args.self.now in
    let n : length (bare s).files ≡ length s.files = length-bare s in
    (first-is (λ f. not f.used) (bare s).files c.loop-k.k idle (omega (arith, c.states-k-end.ensures)) c.loop-k.invariant (λ h. ap not (its-used s c.loop-k.k _ c.state.ensures _ c.is_used.ensures ∙ c.if-not-is_used.true)), omega (arith, c.states-k-end.ensures))

pub loop-k-preserved : goal.loop-k-preserved
loop-k-preserved c =
    let s = c.args.self.now in
    below_more _ _ c.loop-k.invariant (ap not (its-used s c.loop-k.k _ c.state.ensures _ c.is_used.ensures ∙ c.if-not-is_used.false))

pub returns : goal.returns
returns c =
    let s = c.args.self.now in
    let n : length (bare s).files ≡ length s.files = length-bare s in
    first-is (λ f. not f.used) (bare s).files (length (bare s).files) idle (omega arith) (λ j l. c.loop-k.invariant j (omega (arith, c.states-k-end.ensures))) (λ h. absurd (omega arith))
