-- `laying::put_row` meets its contract: 20 bytes or 22, by the width.
use mathlib.Core.Path.{◌≡◌, sym, ap, ◌∙◌}
use lib.ListN.{length}
use Rattle.geometry.specs.Bytes.{lay}
use Rattle.tables.proofs.Laid.{entry-one, entry-two, length-entry}
use borrow.Author.Rules.{rules}
use Rattle.laying.proofs.put_row.Goals as goal

pub returns-then-width-eq-ONE : goal.returns-then-width-eq-ONE
returns-then-width-eq-ONE c =
    let a = c.args in
    let n : length a.e.name ≡ 8 = search rules in
    (c.lay.ensures ∙ ap (lay a.b.now a.at) (c.entry_bytes-x.ensures ∙ sym (entry-one a.width a.e c.if-width-eq-ONE.true)), length-entry a.e n a.width c.requires.0)

pub returns-else-width-eq-ONE : goal.returns-else-width-eq-ONE
returns-else-width-eq-ONE c =
    let a = c.args in
    let n : length a.e.name ≡ 8 = search rules in
    (c.lay-else-width-eq-ONE.ensures ∙ ap (lay a.b.now a.at) (c.wide_bytes-x.ensures ∙ sym (entry-two a.width a.e c.requires.0 c.if-width-eq-ONE.false)), length-entry a.e n a.width c.requires.0)
