-- `straight::store` meets its contract: the padded record is laid where it begins.
use Prim.Native.Nat.{◌+◌, ◌*◌}
use mathlib.Core.Path.{◌≡◌}
use native.Mathlib.Omega.{arith}
use Rattle.geometry.specs.Sizes.{sector}
use Rattle.geometry.specs.Places.{place_of, byte_of}
use Rattle.steps.specs.Effects.{store_effect, plain_do, sector_at}
use Rattle.geometry.specs.declared.Place.{Place}
use Rattle.straight.proofs.store.Goals as goal

pub returns : goal.returns
unfolding store_effect plain_do
returns c =
    let a = c.args in
    let p : Place = place_of a.e.kind a.e.length a.k in
    let z : sector * a.e.first + byte_of p ≡ sector_at a.e p.sector + p.byte = omega arith in
    rw (c.lay_padded.ensures, c.record_at-at.ensures, c.bytes_for-n.ensures, z)
