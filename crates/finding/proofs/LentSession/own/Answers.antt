-- None passed is the one.
use mathlib.Core.Path.{◌≡◌, ◌∙◌}
use native.Mathlib.Omega.{arith}
use lib.ListN.{length}
use borrow.Author.Count.{below_more}
use Rattle.geometry.proofs.Tests.{first-is}
use Rattle.sessions.specs.Session.{idle, bare, is_of}
use Rattle.finding.proofs.States.{length-bare, its-of}
use Rattle.finding.proofs.LentSession.own.Goals as goal

pub loop-k-init : goal.loop-k-init
loop-k-init c = λ j l. absurd (omega arith)

pub returns-then-is_of : goal.returns-then-is_of
returns-then-is_of c =
    let s = c.args.self.now in
    let n : length (bare s).files ≡ length s.files = length-bare s in
    (first-is (is_of c.args.i) (bare s).files c.loop-k.k idle (omega (arith, c.states-k-end.ensures)) c.loop-k.invariant (λ h. its-of s c.loop-k.k _ c.state.ensures c.args.i _ c.is_of.ensures ∙ c.if-is_of.true), omega (arith, c.states-k-end.ensures))

pub loop-k-preserved : goal.loop-k-preserved
loop-k-preserved c =
    let s = c.args.self.now in
    below_more _ _ c.loop-k.invariant (its-of s c.loop-k.k _ c.state.ensures c.args.i _ c.is_of.ensures ∙ c.if-is_of.false)

pub returns : goal.returns
returns c =
    let s = c.args.self.now in
    let n : length (bare s).files ≡ length s.files = length-bare s in
    first-is (is_of c.args.i) (bare s).files (length (bare s).files) idle (omega arith) (λ j l. c.loop-k.invariant j (omega (arith, c.states-k-end.ensures))) (λ h. absurd (omega arith))
