-- `Held::store` meets the trait's contract: the record is laid where it lies.
use mathlib.Core.Path.{refl, ap}
use Rattle.steps.specs.Effects.{store_effect, plain_do}
use Rattle.blocking.specs.Blocking.{lent}
use Rattle.straight.specs.Moving.{moved_by}
use Rattle.blocking.proofs.HeldMover.store.Goals as goal

pub returns : goal.returns
unfolding moved_by store_effect plain_do
returns c =
    let s = c.args.self.now in
    (ap (λ image. lent image s.hold s.buffer.now) c.store.ensures, (refl, refl, refl))
