-- The part taken has n bytes.
use Rattle.geometry.specs.Bytes.{part}
use native.Mathlib.Omega.{arith}
use Prim.Native.Nat.{◌-◌}
use mathlib.Core.Path.{◌≡◌}
use Rattle.judging.proofs.read_record.Goals as goal

pub returns : goal.returns
unfolding part
returns c =
    let a = c.args in
    let n : a.n - 0 ≡ a.n = omega arith in
    rw n at c.lay.ensures
