-- `tables::Table::place` meets its contract: an entry of the table lies within its bytes.
use mathlib.Core.Path.{refl}
use native.Mathlib.Omega.{arith}
use Rattle.tables.proofs.Widths.{below}
use Rattle.tables.proofs.Table.place.Goals as goal

pub overflow_mul-result : goal.overflow_mul-result
overflow_mul-result c =
    let t = c.args.self.now in
    omega (arith, below t.width c.args.i t.rows c.requires)

pub returns : goal.returns
returns c =
    let t = c.args.self.now in
    (refl, omega (arith, below t.width c.args.i t.rows c.requires))
