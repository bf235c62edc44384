-- The invariant: the run has the characters before j, and they are put.
use mathlib.Core.Path.{◌≡◌}
use mathlib.Core.Bool.{false}
use Prim.Native.Nat.{◌-◌}
use lib.ListN.{take, drop}
use lib.Seq.{sets}
use Rattle.coding.specs.Encode.{gap_at}
use Rattle.coding.proofs.Writer.{Scanned}
use Rattle.coding.proofs.Kept.put_characters.Given as goal

abbrev pub invariant-loop-j : goal.invariant-loop-j
invariant-loop-j l = (gap_at l.x (l.j - 1) ≡ false) × Scanned l.x false l.i (l.j - l.i) × (l.out ≡ sets l.fn.out l.at (take (l.j - l.i) (drop l.i l.x)))
