-- `gaps::lowest_gap` meets its contract: the table that bytes hold is the entries that they begin with, or none.
use mathlib.Core.Path.{sym, ap, ◌∙◌}
use mathlib.Core.List.{List}
use Rattle.directory.specs.declared.Entry.{Entry}
use Rattle.tables.specs.Rows.{row_in}
use Rattle.tables.specs.Tables.{entries_in}
use Rattle.tables.proofs.Tables.{table-made, table_none}
use Rattle.gaps.specs.Gaps.{is_taken, lowest_gap}
use Rattle.gaps.proofs.lowest_gap.Goals as goal

pub returns-in-Some : goal.returns-in-Some
returns-in-Some c =
    let a = c.args in
    c.gap_in.ensures ∙ ap (λ (t : List Entry). lowest_gap (is_taken t) a.sectors a.n) (table-made c.in-Some.t a.width a.rows a.b.now c.in-Some.ensures)

pub returns-in-None : goal.returns-in-None
unfolding entries_in row_in
returns-in-None c =
    let a = c.args in
    c.gap_in-in-None.ensures ∙ sym (ap (λ (t : List Entry). lowest_gap (is_taken t) a.sectors a.n) (table_none a.width a.rows a.b.now c.in-None.ensures))
