-- Past its end a sector has no bytes.
use mathlib.Core.Path.{sym}
use native.Mathlib.Omega.{arith}
use Prim.Native.Nat.{◌-◌}
use lib.ListN.{length, drop, length-drop, drop_of_length-le}
use lib.Seq.{take_all}
use Rattle.walking.proofs.from_byte.Goals as goal

pub returns-then-sector-at : goal.returns-then-sector-at
returns-then-sector-at c =
    let a = c.args in
    sym (drop_of_length-le a.sector.now {i = a.o} (omega arith))

pub returns : goal.returns
returns c =
    let a = c.args in
    take_all (length a.sector.now - a.o) (drop a.o a.sector.now) (omega (arith, length-drop a.o a.sector.now))
