-- By the sector that the record goes to.
use mathlib.Core.Path.{ap}
use Prim.Native.Nat.{ℕ}
use lib.Dec.{ltb}
use Rattle.packing.specs.Placing.{has_room}
use Rattle.packing.proofs.has_room.Goals as goal

pub returns : goal.returns
unfolding has_room
returns c = ap (λ (s : ℕ). ltb s c.args.sectors) c.goes_to_sector.ensures
