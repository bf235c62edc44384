-- The call that the row's code names, and the number that it tells.
use mathlib.Core.Path.{sym}
use Prim.Native.Nat.{◌%◌}
use native.Mathlib.Omega.{arith}
use Rattle.playing.proofs.Edits.{adds-most, deletes-none}
use Rattle.playing.proofs.Rows.{handed, adding, deleting}
use Rattle.playing.proofs.play_edit.Goals as goal

pub returns-then-row-ne14 : goal.returns-then-row-ne14
returns-then-row-ne14 c =
    let a = c.args in
    handed _ _ (deleting a.row a.given.now a.image.now a.session.now c.if-row-ne14.true) _ _ _ _ _ c.lleuadrys_delete-number.ensures (sym (deletes-none a.image.now a.session.now a.row.entry _)) c.edit_said.ensures

pub overflow_cast-at : goal.overflow_cast-at
overflow_cast-at c =
    let a = c.args in
    omega (arith, c.lleuadrys_add-number.ensures.1, adds-most a.image.now a.session.now 0 a.row.entry (a.row.granule % 65536) a.row.sectors a.given.now)

pub returns : goal.returns
returns c =
    let a = c.args in
    handed _ _ (adding a.row a.given.now a.image.now a.session.now c.if-row-ne14.false) _ _ _ _ _ c.lleuadrys_add-number.ensures.0 c.lleuadrys_add-number.ensures.1 c.edit_said-2.ensures
