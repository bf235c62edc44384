-- `moving::lay_bytes` meets its contract. The invariant: the first i bytes of xs are laid.
use mathlib.Core.Path.{refl, sym, ap, ◌∙◌}
use Prim.Native.Nat.{ℕ}
use native.Mathlib.Omega.{arith}
use lib.ListN.{length-set}
use lib.Seq.{take_all}
use mathlib.Core.List.{List}
use Rattle.geometry.specs.Bytes as Bytes
use Rattle.geometry.proofs.Bytes.{lay-nil, lay-more}
use Rattle.moving.proofs.lay_bytes.Goals as goal

pub loop-i-init : goal.loop-i-init
loop-i-init c =
    let a = c.args in
    (c.requires, omega arith, refl, sym (lay-nil a.out.now a.at))

pub loop-i-preserved : goal.loop-i-preserved
loop-i-preserved c =
    let a = c.args in
    let l = c.loop-i in (
      l.invariant.0,
      omega arith,
      simp length-set l.invariant.2,
      rw l.invariant.3 (lay-more a.out.now a.at a.xs.now l.i l.invariant.0 (omega arith)),
    )

pub shape_of-out : goal.shape_of-out
shape_of-out c = c.loop-i.invariant.2

pub returns : goal.returns
returns c =
    let a = c.args in
    let l = c.loop-i in
    l.invariant.3 ∙ ap (λ (xs : List ℕ). Bytes.lay a.out.now a.at xs) (take_all l.i a.xs.now (omega arith))
