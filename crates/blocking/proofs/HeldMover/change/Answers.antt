-- `Held::change` meets the trait's contract: a sector that is there is taken, and the bytes laid in the buffer.
use mathlib.Core.Path.{refl, ◌∙◌}
use native.Mathlib.Omega.{arith}
use Prim.Native.Nat.{◌-◌}
use Rattle.geometry.specs.Bytes.{padded}
use Rattle.geometry.specs.Sizes.{sector}
use Rattle.geometry.proofs.Tests.{and_right}
use Rattle.blocking.specs.Blocking.{bench_of}
use Rattle.blocking.proofs.Cases.{worked, there-inside, change-there, change-nowhere}
use Rattle.blocking.proofs.HeldMover.change.Goals as goal

pub overflow_cast-k : goal.overflow_cast-k
overflow_cast-k c =
    omega (arith, c.is_there.ensures.small (and_right _ _ c.if-self-is_there.true))

pub take-requires : goal.take-requires
take-requires c = there-inside c.args.self.now.entry (bench_of c.args.self.now) c.args.k _ c.is_there.ensures.there c.if-self-is_there.true

pub returns-then-self-is_there : goal.returns-then-self-is_there
returns-then-self-is_there c =
    let a = c.args in
    let s = a.self.now in (
      worked a.byte a.behind _ a.xs.now c.take.ensures.0 c.lay_padded.ensures c.room_behind.ensures
          ∙ change-there s.entry (bench_of s) a.k _ c.is_there.ensures.there a.byte (padded a.behind (sector - a.byte) a.xs.now) c.if-self-is_there.true,
      c.take.ensures.1,
    )

pub returns-else-self-is_there : goal.returns-else-self-is_there
returns-else-self-is_there c =
    let a = c.args in
    let s = a.self.now in
    (change-nowhere s.entry (bench_of s) a.k _ c.is_there.ensures.there a.byte (padded a.behind (sector - a.byte) a.xs.now) c.if-self-is_there.false, (refl, refl, refl))
