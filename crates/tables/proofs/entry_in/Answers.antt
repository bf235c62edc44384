-- `tables::entry_in` meets its contract: the entry of the table that bytes hold, where they hold one.
use mathlib.Core.Path.{sym, ap, ◌∙◌}
use Rattle.directory.specs.Entries.{entry_at}
use Rattle.tables.proofs.Tables.{table-made, table_none}
use Rattle.tables.proofs.entry_in.Goals as goal

pub returns-in-Some : goal.returns-in-Some
returns-in-Some c =
    let a = c.args in
    c.entry.ensures ∙ ap (λ t. entry_at t a.i) (table-made c.in-Some.t a.width a.rows a.b.now c.in-Some.ensures)

pub returns-in-None : goal.returns-in-None
returns-in-None c =
    let a = c.args in
    c.free_entry.ensures ∙ sym (ap (λ t. entry_at t a.i) (table_none a.width a.rows a.b.now c.in-None.ensures))
