-- The definition: the part from the extent's first byte to its end.
use mathlib.Core.Path.{◌≡◌}
use Prim.Native.Nat.{◌+◌, ◌-◌, ◌*◌}
use native.Mathlib.Omega.{arith}
use Rattle.geometry.specs.Bytes.{part}
use Rattle.geometry.specs.Sizes.{sector}
use Rattle.sessions.specs.Session.{extent}
use Rattle.judging.proofs.extent_of.Goals as goal

pub returns : goal.returns
unfolding part extent
returns c =
    let e = c.args.e in
    let n : (sector * e.first + sector * e.sectors) - sector * e.first ≡ sector * e.sectors = omega arith in
    rw n
