-- `decoding::measure` meets its contract: the two decoding functions read a sector's bytes, from the first on, and the byte at which they stop says the answer.
use mathlib.Core.Path.{ap}
use mathlib.Core.Bool.{true, false}
use Prim.Native.Nat.{◌<◌}
use native.Mathlib.Omega.{arith}
use lib.ListN.{length}
use lib.Dec.{ltb}
use borrow.Author.Tests.{ltb-true}
use Rattle.geometry.specs.Sizes.{sector}
use Rattle.geometry.proofs.Tests.{and_left}
use Rattle.geometry.proofs.Bytes.{length-part-min}
use Rattle.decoding.proofs.Measured.{read_told}
use Rattle.decoding.proofs.measure.Goals as goal

pub characters-k-requires : goal.characters-k-requires
characters-k-requires c =
    let p = c.part-sector in
    omega (arith, ap length p.ensures, length-part-min c.args.s.now 0 sector)

pub overflow_add-result : goal.overflow_add-result
overflow_add-result c =
    let k = c.characters-k.result in
    let n = length c.part-sector.result.now in
    let some : k < n = ltb-true k n (and_left (ltb k n) _ c.if-k-sector.true) in
    omega arith

pub returns-then-k-sector : goal.returns-then-k-sector
returns-then-k-sector c =
    let p = c.part-sector in
    read_told c.args.length c.characters-k.result c.byte_at.result p.result.now c.args.s.now p.ensures c.byte_at.ensures c.characters-k.ensures true c.if-k-sector.true

pub returns-else-k-sector : goal.returns-else-k-sector
returns-else-k-sector c =
    let p = c.part-sector in
    read_told c.args.length c.characters-k.result c.byte_at.result p.result.now c.args.s.now p.ensures c.byte_at.ensures c.characters-k.ensures false c.if-k-sector.false
