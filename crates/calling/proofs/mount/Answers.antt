-- The table of an image that mounts, or one with no used entry; bytes of another number stay.
use Rattle.calling.proofs.Mounted.{mount-done, mount-bad, mount-leaves, mount-none}
use Rattle.calling.proofs.mount.Goals as goal

pub returns-then-good : goal.returns-then-good
returns-then-good c =
    let a = c.args in
    (mount-done a.image.now a.session.now c.if-n.true _ c.mounts-good.ensures c.if-good.true, mount-leaves a.image.now a.session.now c.if-n.true _ c.mounts-good.ensures _ c.put_start.ensures)

pub returns-else-good : goal.returns-else-good
returns-else-good c =
    let a = c.args in
    (mount-bad a.image.now a.session.now c.if-n.true _ c.mounts-good.ensures c.if-good.false, mount-leaves a.image.now a.session.now c.if-n.true _ c.mounts-good.ensures _ c.put_start.ensures)

pub returns-else-n : goal.returns-else-n
returns-else-n c =
    let a = c.args in
    mount-none a.image.now a.session.now c.if-n.false
