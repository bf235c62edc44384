-- Zeros, over the last of them what the session says of itself, and over the first the directory of an image that is mounted; bytes of another
-- number stay.
use mathlib.Core.Path.{ap, ◌∙◌, sym}
use mathlib.Core.Bool.{Bool}
use Rattle.storing.specs.Stored.{saying_stored, start_saying, start_table, lay_start}
use Rattle.storing.proofs.Start.{sized, has-saying, start_none, start-table, start-other}
use Rattle.storing.proofs.put_start.Goals as goal

pub overflow_sub-n : goal.overflow_sub-n
overflow_sub-n c =
    let a = c.args in
    has-saying a.b.now a.image.now c.if-n.true

pub returns-then-mounted : goal.returns-then-mounted
returns-then-mounted c =
    let a = c.args in
    start-table a.b.now a.image.now (sized a.b.now a.image.now c.if-n.true) _ c.fill.ensures (start_saying a.mounted) _ (c.saying_bytes-says.ensures ∙ ap saying_stored c.start_saying.ensures) _ c.lay.ensures _ c.copy_table.ensures
    ∙ ap (λ (m : Bool). lay_start a.b.now (start_saying a.mounted) (start_table m a.image.now)) (sym c.if-mounted.true)

pub returns-else-mounted : goal.returns-else-mounted
returns-else-mounted c =
    let a = c.args in
    start_none a.b.now a.image.now (sized a.b.now a.image.now c.if-n.true) _ c.fill.ensures (start_saying a.mounted) _ (c.saying_bytes-says.ensures ∙ ap saying_stored c.start_saying.ensures) _ c.lay.ensures
    ∙ ap (λ (m : Bool). lay_start a.b.now (start_saying a.mounted) (start_table m a.image.now)) (sym c.if-mounted.false)

pub returns-else-n : goal.returns-else-n
returns-else-n c =
    let a = c.args in
    start-other a.b.now a.image.now _ _ c.if-n.false
