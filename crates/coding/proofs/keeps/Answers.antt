-- `coding::keeps` meets its contract. The invariant: what is kept of the first e + 1 characters is what is kept of x.
use mathlib.Core.Path.{◌≡◌, refl, sym, ◌∙◌}
use Prim.Native.Nat.{◌+◌, ◌-◌}
use native.Mathlib.Omega.{arith}
use lib.ListN.{length}
use Rattle.coding.specs.Encode.{keeps}
use Rattle.coding.proofs.Writer.{keeps-all, keeps-less}
use Rattle.coding.proofs.keeps.Goals as goal

pub returns-then-n-eq0 : goal.returns-then-n-eq0
unfolding keeps
returns-then-n-eq0 c = let none : length c.args.x.now ≡ 0 = omega arith in rw none

pub loop-e-init : goal.loop-e-init
loop-e-init c =
    let x = c.args.x.now in
    let back : length x - 1 + 1 ≡ length x = omega arith in
    (omega arith, rw back refl)

pub returns-then-e-eq0 : goal.returns-then-e-eq0
unfolding keeps
returns-then-e-eq0 c =
    let x = c.args.x.now in
    let first : c.loop-e.e ≡ 0 = omega arith in
    let none : keeps c.loop-e.e x ≡ 0 = rw first in
    sym none ∙ sym (keeps-less x c.loop-e.e (omega arith)) ∙ c.loop-e.invariant.1

pub loop-e-preserved : goal.loop-e-preserved
loop-e-preserved c =
    let x = c.args.x.now in
    let back : c.loop-e.e - 1 + 1 ≡ c.loop-e.e = omega arith in
    (omega arith, rw back (sym (keeps-less x c.loop-e.e (omega arith)) ∙ c.loop-e.invariant.1))

pub returns : goal.returns
returns c = sym (keeps-all c.args.x.now c.loop-e.e (λ z. omega arith)) ∙ c.loop-e.invariant.1
