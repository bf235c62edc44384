-- `Geometry::capacity` meets its contract: at most 360 records to a sector, so that the product fits.
use Rattle.geometry.proofs.Places.{capacity-limited, capacity-all, capacity-whole}
use mathlib.Core.Path.{sym, ◌∙◌}
use Prim.Native.Nat.{◌*◌, ◌≤◌}
use native.Mathlib.Nat.{div-le_self, mul-le-mul_right}
use native.Mathlib.Omega.{arith}
use Rattle.geometry.specs.Places.{per_sector}
use Rattle.geometry.proofs.Geometry.capacity.Goals as goal

pub overflow_mul-all : goal.overflow_mul-all
unfolding per_sector
overflow_mul-all c =
    let a = c.args in
    let q = c.per_sector in
    let h : q.result ≤ 360 = rw q.ensures (div-le_self 360 a.length) in
    let p : q.result * a.sectors ≤ 360 * a.sectors = mul-le-mul_right a.sectors h in
    omega arith

pub returns-then-kind-all : goal.returns-then-kind-all
returns-then-kind-all c =
    let q = c.per_sector in
    let h = sym c.shares.ensures ∙ c.if-shares.true in
    sym (capacity-limited _ _ _ h (rw (← q.ensures) c.if-kind-all.true))

pub returns-else-kind-all : goal.returns-else-kind-all
returns-else-kind-all c =
    let q = c.per_sector in
    let h = sym c.shares.ensures ∙ c.if-shares.true in
    sym (capacity-all _ _ _ h (rw (← q.ensures) c.if-kind-all.false) ∙ rw (← q.ensures))

pub returns-else-shares : goal.returns-else-shares
returns-else-shares c =
    let h = sym c.shares.ensures ∙ c.if-shares.false in
    rw (capacity-whole _ _ _ h) (rw (c.quotient.ensures, c.sectors_for.ensures))
