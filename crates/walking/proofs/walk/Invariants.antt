-- The invariant: the records that are left lead from the place p to where all of them lead from the origin.
use mathlib.Core.Path.{◌≡◌}
use Prim.Native.Nat.{◌-◌}
use Rattle.geometry.specs.Places.{origin}
use Rattle.packing.specs.Reading.{walk, walked_to}
use Rattle.walking.proofs.walk.Given as goal

abbrev pub invariant-loop : goal.invariant-loop
invariant-loop l = walked_to l.p (walk l.length l.sectors l.bytes (l.count - l.counter) l.p) ≡ walked_to origin (walk l.length l.sectors l.bytes l.count origin)
