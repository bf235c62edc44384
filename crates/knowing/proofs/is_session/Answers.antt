-- As many bytes as it takes, and each truth value of its four states and of what it says of itself.
use mathlib.Core.Path.{refl, ap, ◌∙◌}
use mathlib.Core.Bool.{Bool, ◌&&◌}
use Prim.Native.Nat.{ℕ, ◌+◌, ◌*◌}
use native.Mathlib.Omega.{arith}
use Rattle.geometry.specs.Lists.{all}
use Rattle.storing.specs.Stored.{state_flags}
use Rattle.storing.proofs.Read.{flags-more}
use Rattle.knowing.proofs.Known.{session-told, session-not}
use Rattle.knowing.proofs.is_session.Goals as goal

pub loop-k-init : goal.loop-k-init
unfolding all
loop-k-init c = refl

pub loop-k-preserved : goal.loop-k-preserved
loop-k-preserved c =
    let a = c.args in
    ap (λ (g : Bool). g && c.state_flags-good.result) c.loop-k.invariant
    ∙ flags-more a.buffers a.b.now c.loop-k.k (omega arith) _ (c.state_flags-good.ensures.0 ∙ ap (λ (w : ℕ). state_flags a.buffers a.b.now (396 + w * c.loop-k.k)) c.state_width-w.ensures.0)

pub returns : goal.returns
returns c =
    let a = c.args in
    session-told a.buffers a.b.now _ c.state_width-w.ensures.0 c.if-b-says.false c.saying_flags.ensures.1 c.loop-k.k (omega arith) _ _ c.loop-k.invariant c.saying_flags.ensures.0

pub returns-then-b-says : goal.returns-then-b-says
returns-then-b-says c =
    let a = c.args in
    session-not a.buffers a.b.now c.state_width-w.result c.state_width-w.ensures.0 c.if-b-says.true
