-- `Geometry::byte_of_record` meets its contract: a remainder is at most the number, so that the product fits.
use Rattle.geometry.proofs.Places.{place-shared, place-whole}
use mathlib.Core.Path.{sym, ◌∙◌}
use Prim.Native.Nat.{◌*◌, ◌≤◌}
use native.Mathlib.Nat.{mul-le-mul}
use native.Mathlib.Omega.{arith}
use Rattle.geometry.proofs.Geometry.byte_of_record.Goals as goal

pub overflow_mul-result : goal.overflow_mul-result
overflow_mul-result c =
    let a = c.args in
    let r = c.remainder in
    let h : r.result ≤ 4294967295 = omega arith in
    let k : a.length ≤ 65535 = omega arith in
    let p : r.result * a.length ≤ 4294967295 * 65535 = mul-le-mul h k in
    omega arith

pub returns-then-shares : goal.returns-then-shares
returns-then-shares c =
    rw (place-shared _ _ _ (sym c.shares.ensures ∙ c.if-shares.true)) (rw (c.remainder.ensures, c.per_sector.ensures))

pub returns-else-shares : goal.returns-else-shares
returns-else-shares c = rw (place-whole _ _ _ (sym c.shares.ensures ∙ c.if-shares.false))
