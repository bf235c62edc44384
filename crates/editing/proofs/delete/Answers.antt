-- One way for each test, and one past them.
use mathlib.Core.Path.{ap, ◌∙◌}
use Rattle.geometry.specs.Sizes.{entries}
use Rattle.tables.specs.Tables.{one_word_wide, two_words_wide, lay_entry}
use Rattle.editing.proofs.Deleting.{none-such, is_open, deleted}
use Rattle.editing.proofs.delete.Goals as goal

pub returns-then-not-used : goal.returns-then-not-used
returns-then-not-used c =
    let a = c.args in
    let p = c.requires in
    λ name at. none-such a.image.now a.session.now p.0 a.i name at a.used p.1.0 c.if-not-used.true

pub returns-then-opened : goal.returns-then-opened
returns-then-opened c =
    let a = c.args in
    let p = c.requires in
    λ name at. is_open a.image.now a.session.now p.0 a.i name at a.used p.1.0 c.if-not-used.false a.opened p.1.1 c.if-opened.true

pub returns : goal.returns
returns c =
    let a = c.args in
    let p = c.requires in
    λ name at. deleted a.image.now a.session.now p.0 a.i name at a.used p.1.0 c.if-not-used.false a.opened p.1.1 c.if-opened.false _ _
    (c.put_both.ensures.0 ∙ ap (lay_entry one_word_wide entries a.image.now a.i) c.free_entry.ensures)
    (c.put_both.ensures.1 ∙ ap (lay_entry two_words_wide entries a.session.now a.i) c.free_entry.ensures)
