-- `tables::table_good` meets its contract: where there is room for a table, its rules decide.
use mathlib.Core.Path.{sym, ap, ◌∙◌}
use mathlib.Core.Bool.{Bool, ◌&&◌}
use Rattle.directory.specs.Rules.{table_good}
use Rattle.tables.specs.Tables.{entries_in}
use Rattle.tables.proofs.Tables.{table-made, table_is}
use Rattle.tables.proofs.table_good.Goals as goal

pub returns-in-Some : goal.returns-in-Some
returns-in-Some c =
    let a = c.args in
    let h = c.in-Some.ensures in
    c.is_good.ensures ∙ ap (table_good a.sectors) (table-made c.in-Some.t a.width a.rows a.b.now h ∙ table_is a.width a.rows a.b.now h.0)
    ∙ ap (λ (x : Bool). x && table_good a.sectors (entries_in a.width a.rows a.b.now)) (sym h.0)

pub returns-in-None : goal.returns-in-None
returns-in-None c =
    let a = c.args in
    ap (λ (x : Bool). x && table_good a.sectors (entries_in a.width a.rows a.b.now)) (sym c.in-None.ensures)
