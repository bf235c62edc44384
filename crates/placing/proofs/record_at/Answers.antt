-- `placing::record_at` meets its contract: the sector and the byte that geometry gives are small enough to be counted with.
use Prim.Native.Nat.{◌≤◌}
use native.Mathlib.Omega.{arith}
use Rattle.geometry.proofs.Places.{sector-most, byte-most}
use borrow.Author.Rules.{rules}
use Rattle.placing.proofs.record_at.Goals as goal

pub overflow_add-result : goal.overflow_add-result
overflow_add-result c =
    let a = c.args in
    omega (arith, c.sector_of_record-sector.ensures, sector-most a.kind a.e.length a.k (search rules))

pub overflow_mul-result : goal.overflow_mul-result
overflow_mul-result c =
    let a = c.args in
    omega (arith, c.sector_of_record-sector.ensures, sector-most a.kind a.e.length a.k (search rules))

pub overflow_add-result-2 : goal.overflow_add-result-2
overflow_add-result-2 c =
    let a = c.args in
    let l : a.e.length ≤ 65535 = search rules in
    omega (arith, c.sector_of_record-sector.ensures, sector-most a.kind a.e.length a.k l, c.byte_of_record-byte.ensures, byte-most a.kind a.e.length a.k l)
