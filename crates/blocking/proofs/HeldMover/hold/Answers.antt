-- `Held::hold` meets the trait's contract: a sector that is there is taken.
use mathlib.Core.Path.{refl, ◌∙◌}
use native.Mathlib.Omega.{arith}
use Rattle.geometry.proofs.Tests.{and_right}
use Rattle.blocking.specs.Blocking.{bench_of}
use Rattle.blocking.proofs.Cases.{there-inside, hold-there, hold-nowhere}
use Rattle.blocking.proofs.HeldMover.hold.Goals as goal

pub overflow_cast-k : goal.overflow_cast-k
overflow_cast-k c =
    omega (arith, c.is_there.ensures.small (and_right _ _ c.if-self-is_there.true))

pub take-requires : goal.take-requires
take-requires c = there-inside c.args.self.now.entry (bench_of c.args.self.now) c.args.k _ c.is_there.ensures.there c.if-self-is_there.true

pub returns-then-self-is_there : goal.returns-then-self-is_there
returns-then-self-is_there c =
    let s = c.args.self.now in
    (c.take.ensures.0 ∙ hold-there s.entry (bench_of s) c.args.k _ c.is_there.ensures.there c.if-self-is_there.true, c.take.ensures.1)

pub returns-else-self-is_there : goal.returns-else-self-is_there
returns-else-self-is_there c =
    let s = c.args.self.now in
    (hold-nowhere s.entry (bench_of s) c.args.k _ c.is_there.ensures.there c.if-self-is_there.false, (refl, refl, refl))
