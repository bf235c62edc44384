-- Not legal; or one of the two, on a session that is.
use mathlib.Core.Path.{refl, sym, ◌∙◌}
use borrow.Author.Tests.{not-true, not-false}
use Rattle.editing.proofs.Lent.{unlawful-in, seen-lawful, seen-used, seen-open, handed-as}
use Rattle.editing.proofs.edit.Goals as goal

pub shape_of-image-then-not-seen : goal.shape_of-image-then-not-seen
shape_of-image-then-not-seen c = refl

pub shape_of-session-then-not-seen : goal.shape_of-session-then-not-seen
shape_of-session-then-not-seen c = refl

pub returns-then-not-seen : goal.returns-then-not-seen
returns-then-not-seen c =
    let a = c.args in
    unlawful-in a.image.now a.session.now a.i a.x a.name.now (sym (seen-lawful a.image.now a.session.now a.i c.find_in-seen.result c.find_in-seen.ensures) ∙ not-true _ c.if-not-seen.true) a.at.now

pub add-requires : goal.add-requires
add-requires c =
    let a = c.args in
    sym (seen-lawful a.image.now a.session.now a.i c.find_in-seen.result c.find_in-seen.ensures) ∙ not-false _ c.if-not-seen.false

pub delete-requires : goal.delete-requires
delete-requires c =
    let a = c.args in
    (sym (seen-lawful a.image.now a.session.now a.i c.find_in-seen.result c.find_in-seen.ensures) ∙ not-false _ c.if-not-seen.false, (seen-used a.image.now a.session.now a.i c.find_in-seen.result c.find_in-seen.ensures, seen-open a.image.now a.session.now a.i c.find_in-seen.result c.find_in-seen.ensures))

pub returns-in-Ok : goal.returns-in-Ok
returns-in-Ok c =
    let a = c.args in
    handed-as a.image.now a.session.now a.i a.x _ a.name.now c.in-Add.is _ _ _ _ _ (c.in-Ok.ensures a.i a.at.now)

pub returns-in-Err : goal.returns-in-Err
returns-in-Err c =
    let a = c.args in
    handed-as a.image.now a.session.now a.i a.x _ a.name.now c.in-Add.is _ _ _ _ _ (c.in-Err.ensures a.i a.at.now)

pub returns-in-Ok-delete : goal.returns-in-Ok-delete
returns-in-Ok-delete c =
    let a = c.args in
    handed-as a.image.now a.session.now a.i a.x _ a.name.now c.in-Delete.is _ _ _ _ _ (c.in-Ok-delete.ensures a.name.now a.at.now)

pub returns-in-Err-delete : goal.returns-in-Err-delete
returns-in-Err-delete c =
    let a = c.args in
    handed-as a.image.now a.session.now a.i a.x _ a.name.now c.in-Delete.is _ _ _ _ _ (c.in-Err-delete.ensures a.name.now a.at.now)
