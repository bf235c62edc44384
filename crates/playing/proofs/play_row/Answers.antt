-- By the code: an edit or a request.
use mathlib.Core.Path.{sym, ◌∙◌}
use Rattle.playing.proofs.Rows.{of-edit, of-request}
use Rattle.playing.proofs.play_row.Goals as goal

pub returns-then-is_edit : goal.returns-then-is_edit
returns-then-is_edit c =
    let a = c.args in
    of-edit a.row a.given.now a.image.now a.session.now a.buffer.now _ _ a.buffer.now _ (sym c.is_edit.ensures ∙ c.if-is_edit.true) c.play_edit.ensures.0 c.play_edit.ensures.1

pub returns-else-is_edit : goal.returns-else-is_edit
returns-else-is_edit c =
    let a = c.args in
    of-request a.row a.given.now a.image.now a.session.now a.buffer.now _ _ _ _ (sym c.is_edit.ensures ∙ c.if-is_edit.false) c.play_request.ensures.0 c.play_request.ensures.1
