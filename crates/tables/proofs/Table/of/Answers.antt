-- `tables::Table::of` meets its contract: a width that there is, and room for the entries.
use mathlib.Core.Path.{sym, ◌∙◌}
use Rattle.tables.proofs.Widths.{rows-wide, rows_fit}
use Rattle.tables.proofs.Table.of.Goals as goal

pub invariant_of-result : goal.invariant_of-result
invariant_of-result c =
    let a = c.args in
    let t = sym c.has_rows.ensures ∙ c.if-has_rows.true in
    record { wide = rows-wide a.width a.rows a.b.now t; fits = rows_fit a.width a.rows a.b.now t }
