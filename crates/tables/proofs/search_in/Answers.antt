-- `tables::search_in` meets its contract: the entry of the table that bytes hold, where they hold one.
use mathlib.Core.Path.{sym, ap, ◌∙◌}
use Rattle.directory.specs.Search.{find}
use Rattle.tables.proofs.Tables.{table-made, table_none, empty-none}
use Rattle.tables.proofs.search_in.Goals as goal

pub returns-in-Some : goal.returns-in-Some
returns-in-Some c =
    let a = c.args in
    c.find.ensures ∙ ap (λ t. find t a.name.now) (table-made c.in-Some.t a.width a.rows a.b.now c.in-Some.ensures)

pub returns-in-None : goal.returns-in-None
returns-in-None c =
    let a = c.args in
    sym (empty-none _ a.name.now (table_none a.width a.rows a.b.now c.in-None.ensures))
