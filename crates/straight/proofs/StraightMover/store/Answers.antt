-- `Straight::store` meets the trait's contract: the record is laid where it lies.
use mathlib.Core.Path.{refl, ap}
use Rattle.steps.specs.Effects.{store_effect, plain_do}
use Rattle.sessions.specs.Session.{idle, fresh}
use Rattle.straight.specs.Moving.{bench}
use Rattle.straight.specs.Moving.{moved_by}
use Rattle.straight.proofs.StraightMover.store.Goals as goal

pub returns : goal.returns
unfolding moved_by store_effect plain_do
returns c = (ap (λ image. bench image (fresh idle)) c.store.ensures, (refl, refl))
