-- `making::make_empty` meets its contract: zeros are laid over all of the bytes, or over none.
use mathlib.Core.Path.{sym, ◌∙◌}
use Rattle.making.proofs.Empty.{emptied-laid, emptied-unlawful}
use Rattle.making.proofs.make_empty.Goals as goal

pub returns-then-lawful_length : goal.returns-then-lawful_length
returns-then-lawful_length c =
    let f = c.fill in
    let t = c.if-lawful_length.true in
    let l = c.lawful_length in
    let xs = c.args.image.now in
    let h = sym l.ensures ∙ t in
    (sym h, f.ensures ∙ emptied-laid xs h)

pub returns-else-lawful_length : goal.returns-else-lawful_length
returns-else-lawful_length c =
    let l = c.lawful_length in
    let xs = c.args.image.now in
    let h = sym l.ensures ∙ c.if-lawful_length.false in
    (sym h, sym (emptied-unlawful xs h))
