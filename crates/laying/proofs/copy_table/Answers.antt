-- `laying::copy_table` meets its contract: the table laid, if there is room for it on both sides.
use Prim.Native.Nat.{◌*◌, ◌≤◌}
use mathlib.Core.Path.{◌≡◌, sym, ap, ◌∙◌}
use lib.ListN.{length}
use Rattle.geometry.specs.Bytes.{lay}
use Rattle.tables.specs.Rows.{row_of}
use Rattle.tables.specs.Tables.{entry_of}
use Rattle.tables.proofs.Tables.{table-made, table_is}
use Rattle.tables.proofs.Widths.{rows-wide, rows_fit}
use Rattle.tables.proofs.Laid.{copied-there, copied-not, copied_none}
use Rattle.laying.proofs.copy_table.Goals as goal

pub copy_rows-requires : goal.copy_rows-requires
copy_rows-requires c =
    let a = c.args in
    let t = sym c.has_rows.ensures ∙ c.if-has_rows.true in
    let k : a.to * a.rows ≤ length a.out.now = rows_fit a.to a.rows a.out.now t in
    let e : c.in-Some.t.rows ≡ a.rows = c.in-Some.ensures.1.1.1 in
    (rows-wide a.to a.rows a.out.now t, rw e k)

pub returns-in-Some : goal.returns-in-Some
returns-in-Some c =
    let a = c.args in
    let h = c.in-Some.ensures in
    c.copy_rows.ensures
    ∙ ap (λ xs. lay a.out.now 0 (row_of (entry_of a.to) xs)) (table-made c.in-Some.t a.from a.rows a.b.now h ∙ table_is a.from a.rows a.b.now h.0)
    ∙ sym (copied-there a.to a.out.now a.from a.b.now a.rows (sym c.has_rows.ensures ∙ c.if-has_rows.true) h.0)

pub returns-in_default : goal.returns-in_default
returns-in_default c =
    let a = c.args in
    sym (copied-not a.to a.out.now a.from a.b.now a.rows c.in_default.ensures)

pub returns-else-has_rows : goal.returns-else-has_rows
returns-else-has_rows c =
    let a = c.args in
    sym (copied_none a.to a.out.now a.from a.b.now a.rows (sym c.has_rows.ensures ∙ c.if-has_rows.false))
