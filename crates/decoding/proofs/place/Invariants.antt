-- `decoding::place` meets its contract. The invariant: what is still to be read, from i on into the room from j on, fills out as the whole does.
use Rattle.std.proofs.Common.{◌≡◌, length, ◌-◌}
use Rattle.decoding.specs.Decode.{Awaited, filled}
use Rattle.decoding.proofs.Filled.{Next}
use Rattle.decoding.proofs.place.Given as goal

abbrev pub invariant-loop-i : goal.invariant-loop-i
invariant-loop-i l = (length l.out ≡ length l.initial.out) × Awaited (Next l.s l.i l.out l.j) l.out l.j × (filled (Next l.s 0 l.initial.out 0) l.initial.out 0 ≡ filled (Next l.s l.i l.out l.j) l.out l.j)

abbrev pub decreases-loop-i : goal.decreases-loop-i
decreases-loop-i l = length l.s - l.i
