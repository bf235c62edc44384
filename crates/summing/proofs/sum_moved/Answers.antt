-- `summing::sum_moved` meets its contract: by the number, then by the request.
use mathlib.Core.Path.{sym, ap, ◌∙◌}
use Rattle.std.specs.Prelude.{Some}
use Rattle.asking.specs.Requested.{left}
use Rattle.scripts.specs.Sums.{sums_of}
use Rattle.summing.proofs.Moved.{no_words, refused, summed}
use Rattle.summing.proofs.sum_moved.Goals as goal

pub returns-then-number-ne0 : goal.returns-then-number-ne0
returns-then-number-ne0 c =
    let g = c.args in
    let a = left g.number g.image.now g.session.now g.buffer.now in
    rw (refused g.row g.given.now a c.if-number-ne0.true) no_words

pub returns-in-Some-Read : goal.returns-in-Some-Read
returns-in-Some-Read c =
    let g = c.args in
    let a = left g.number g.image.now g.session.now g.buffer.now in
    let s = summed g.row g.given.now a c.if-number-ne0.false _ (sym (c.in-Some-Read.is ∙ ap Some c.in-Some-Read.field-0-is) ∙ c.by_code.ensures) in c.sum_read.ensures ∙ s

pub returns-in-Some-GranuleRead : goal.returns-in-Some-GranuleRead
returns-in-Some-GranuleRead c =
    let g = c.args in
    let a = left g.number g.image.now g.session.now g.buffer.now in
    let s = summed g.row g.given.now a c.if-number-ne0.false _ (sym (c.in-Some-GranuleRead.is ∙ ap Some c.in-Some-GranuleRead.field-0-is) ∙ c.by_code.ensures) in c.sum_read-in-Some-GranuleRead.ensures ∙ s

pub returns-in-Some-Write : goal.returns-in-Some-Write
unfolding sums_of
returns-in-Some-Write c =
    let g = c.args in
    let a = left g.number g.image.now g.session.now g.buffer.now in
    let s = summed g.row g.given.now a c.if-number-ne0.false _ (sym (c.in-Some-Write.is ∙ ap Some c.in-Some-Write.field-0-is) ∙ c.by_code.ensures) in rw c.sums_of.ensures s

pub returns-in-Some-GranuleWrite : goal.returns-in-Some-GranuleWrite
unfolding sums_of
returns-in-Some-GranuleWrite c =
    let g = c.args in
    let a = left g.number g.image.now g.session.now g.buffer.now in
    let s = summed g.row g.given.now a c.if-number-ne0.false _ (sym (c.in-Some-GranuleWrite.is ∙ ap Some c.in-Some-GranuleWrite.field-0-is) ∙ c.by_code.ensures) in rw c.sums_of-in-Some-GranuleWrite.ensures s

pub returns-in-Some-GranuleLook : goal.returns-in-Some-GranuleLook
returns-in-Some-GranuleLook c =
    let g = c.args in
    let a = left g.number g.image.now g.session.now g.buffer.now in
    let s = summed g.row g.given.now a c.if-number-ne0.false _ (sym (c.in-Some-GranuleLook.is ∙ ap Some c.in-Some-GranuleLook.field-0-is) ∙ c.by_code.ensures) in c.sum_shown.ensures ∙ s

pub returns-in-Some-Open : goal.returns-in-Some-Open
returns-in-Some-Open c =
    let g = c.args in
    let a = left g.number g.image.now g.session.now g.buffer.now in
    no_words ∙ summed g.row g.given.now a c.if-number-ne0.false _ (sym (c.in-Some-Open.is ∙ ap Some c.in-Some-Open.field-0-is) ∙ c.by_code.ensures)

pub returns-in-Some-Position : goal.returns-in-Some-Position
returns-in-Some-Position c =
    let g = c.args in
    let a = left g.number g.image.now g.session.now g.buffer.now in
    no_words ∙ summed g.row g.given.now a c.if-number-ne0.false _ (sym (c.in-Some-Position.is ∙ ap Some c.in-Some-Position.field-0-is) ∙ c.by_code.ensures)

pub returns-in-None : goal.returns-in-None
returns-in-None c =
    let g = c.args in
    let a = left g.number g.image.now g.session.now g.buffer.now in
    no_words ∙ summed g.row g.given.now a c.if-number-ne0.false _ (sym c.in-None.is ∙ c.by_code.ensures)
