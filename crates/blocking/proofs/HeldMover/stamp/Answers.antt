-- `Held::stamp` meets the trait's contract: count and flags of an entry that is there.
use mathlib.Core.Path.{refl, ap, ◌∙◌}
use Rattle.blocking.specs.Blocking.{lent, held_way}
use Rattle.straight.proofs.Moved.{stamps}
use Rattle.blocking.proofs.HeldMover.stamp.Goals as goal

pub returns : goal.returns
returns c =
    let s = c.args.self.now in
    (ap (λ image. lent image s.hold s.buffer.now) c.stamp.ensures ∙ stamps held_way c.args.i s.entry (lent s.image.now s.hold s.buffer.now), (refl, refl, refl))
