-- `Straight::stamp` meets the trait's contract: count and flags of an entry that is there.
use mathlib.Core.Path.{refl, ap, ◌∙◌}
use Rattle.sessions.specs.Session.{idle, fresh}
use Rattle.straight.specs.Moving.{bench}
use Rattle.straight.proofs.Moved.{stamps}
use Rattle.straight.specs.Moving.{straight_way}
use Rattle.straight.proofs.StraightMover.stamp.Goals as goal

pub returns : goal.returns
returns c =
    let s = c.args.self.now in
    (ap (λ image. bench image (fresh idle)) c.stamp.ensures ∙ stamps straight_way c.args.i s.entry (bench s.image.now (fresh idle)), (refl, refl))
