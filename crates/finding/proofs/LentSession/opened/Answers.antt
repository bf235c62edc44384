-- As many as are in use among those passed.
use mathlib.Core.Path.{◌≡◌, refl, sym, ap, ◌∙◌}
use Prim.Native.Nat.{ℕ, ◌+◌}
use native.Mathlib.Omega.{arith}
use lib.ListN.{length}
use lib.Seq.{take_all}
use Rattle.geometry.specs.Lists.{how_many}
use Rattle.sessions.specs.Session.{bare, open_files}
use Rattle.storing.specs.Numbers.{flag_of}
use Rattle.finding.proofs.States.{length-bare, its-used, open-more}
use Rattle.finding.proofs.LentSession.opened.Goals as goal

pub loop-k-init : goal.loop-k-init
unfolding how_many
loop-k-init c = (refl, omega arith)

pub loop-k-preserved : goal.loop-k-preserved
loop-k-preserved c =
    let s = c.args.self.now in
    let k = c.loop-k.k in
    let n : length (bare s).files ≡ length s.files = length-bare s in
    let v = c.used-n.result in
    let e : v ≡ flag_of c.state.result.file.used = c.used-n.ensures.0 in (
      ap (λ (m : ℕ). m + v) c.loop-k.invariant.0
          ∙ open-more (bare s).files k (omega (arith, c.states-k-end.ensures)) v (e ∙ ap flag_of (sym (its-used s k _ c.state.ensures _ refl))),
      omega (arith, c.used-n.ensures.1, c.loop-k.invariant.1),
    )

pub returns : goal.returns
unfolding open_files
returns c =
    let s = c.args.self.now in
    let n : length (bare s).files ≡ length s.files = length-bare s in
    c.loop-k.invariant.0 ∙ ap (how_many (λ f. f.used)) (take_all c.loop-k.k (bare s).files (omega (arith, c.states-k-end.ensures)))
