-- `gaps::none_used` meets its contract: no entry is used where there is no table.
use mathlib.Core.Path.{sym, ap, ◌∙◌}
use Rattle.geometry.specs.Lists.{every}
use Rattle.directory.specs.Entries.{is_free}
use Rattle.tables.proofs.Tables.{table-made, table_none}
use Rattle.gaps.proofs.none_used.Goals as goal

pub returns-in-Some : goal.returns-in-Some
returns-in-Some c =
    let a = c.args in
    c.all_free.ensures ∙ ap (every is_free) (table-made c.in-Some.t a.width a.rows a.b.now c.in-Some.ensures)

pub returns-in-None : goal.returns-in-None
unfolding every
returns-in-None c =
    let a = c.args in
    sym (ap (every is_free) (table_none a.width a.rows a.b.now c.in-None.ensures))
