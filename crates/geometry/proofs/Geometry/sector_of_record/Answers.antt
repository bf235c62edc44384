-- `Geometry::sector_of_record` meets its contract: at most 183 sectors to a record, so that the product fits.
use Rattle.geometry.proofs.Places.{place-shared, place-whole}
use mathlib.Core.Path.{sym, ◌∙◌}
use Prim.Native.Nat.{◌*◌, ◌≤◌}
use native.Mathlib.Nat.{mul-le-mul_right}
use native.Mathlib.Omega.{arith}
use Rattle.geometry.specs.Places.{sectors_for}
use Rattle.geometry.proofs.Geometry.sector_of_record.Goals as goal

pub overflow_mul-result : goal.overflow_mul-result
unfolding sectors_for
overflow_mul-result c =
    let a = c.args in
    let s = c.sectors_for in
    let h : s.result ≤ 183 = rw s.ensures (omega arith) in
    let p : s.result * a.k ≤ 183 * a.k = mul-le-mul_right a.k h in
    omega arith

pub returns-then-shares : goal.returns-then-shares
returns-then-shares c =
    rw (place-shared _ _ _ (sym c.shares.ensures ∙ c.if-shares.true)) (rw (c.quotient.ensures, c.per_sector.ensures))

pub returns-else-shares : goal.returns-else-shares
returns-else-shares c =
    rw (place-whole _ _ _ (sym c.shares.ensures ∙ c.if-shares.false)) (rw c.sectors_for.ensures)
