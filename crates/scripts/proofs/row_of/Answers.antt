-- Its last test, behind which the row is told, or its code.
use mathlib.Core.Path.{sym, ◌∙◌}
use Rattle.scripts.proofs.Rows.{in-order, unknown}
use Rattle.scripts.proofs.row_of.Goals as goal

pub returns-then-is_none-is_edit : goal.returns-then-is_none-is_edit
returns-then-is_none-is_edit c =
    unknown c.args.bytes.now c.if-bytes-lt16.false (sym c.is_misshapen.ensures ∙ c.if-is_misshapen.false) _ c.row_in-row.ensures _ c.by_code.ensures _ c.is_none.ensures
    (rw c.is_edit.ensures at c.if-is_none-is_edit.true)

pub returns : goal.returns
returns c =
    in-order c.args.bytes.now c.if-bytes-lt16.false (sym c.is_misshapen.ensures ∙ c.if-is_misshapen.false) _ c.row_in-row.ensures _ c.by_code.ensures _ c.is_none.ensures
    (rw c.is_edit.ensures at c.if-is_none-is_edit.false)
