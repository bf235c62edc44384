-- The number of sectors is compared with 180.
use mathlib.Core.Path.{ap}
use Prim.Native.Nat.{ℕ}
use lib.Dec.{leb}
use Rattle.listing.proofs.is_short.Goals as goal

pub returns : goal.returns
returns c = ap (λ (n : ℕ). leb n 180) c.sectors_of.ensures
