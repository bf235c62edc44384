-- `laying::put_entry` meets its contract: laid at its place, if there is such a place.
use mathlib.Core.Path.{sym, ◌∙◌}
use native.Mathlib.Omega.{arith}
use Rattle.tables.proofs.Laid.{row-placed, row-unplaced}
use Rattle.laying.proofs.put_entry.Goals as goal

pub returns-in-Some : goal.returns-in-Some
returns-in-Some c =
    let a = c.args in
    let p = c.in-Some.ensures in
    c.put_row.ensures.0 ∙ sym (row-placed a.width a.rows a.b.now a.i 0 _ p.0 _ (omega (arith, p.1.0)))

pub returns-in_default : goal.returns-in_default
returns-in_default c =
    let a = c.args in
    sym (row-unplaced a.width a.rows a.b.now a.i 0 _ c.in_default.ensures)
