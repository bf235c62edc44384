-- `tables::long_in` meets its contract: the code is the definition.
use Prim.Native.Nat.{◌+◌}
use mathlib.Core.Path.{◌≡◌}
use native.Mathlib.Omega.{arith}
use Rattle.geometry.specs.Bytes.{word_at}
use Rattle.tables.specs.Numbers.{long_at}
use Rattle.tables.proofs.long_in.Goals as goal

pub returns : goal.returns
unfolding long_at word_at
returns c =
    let a = c.args in
    let e : (a.at + 2) + 1 ≡ a.at + 3 = omega arith in
    rw e (omega (arith, c.from_be_bytes.ensures), omega (arith, c.type_inv.b (a.at + 2), c.type_inv.b (a.at + 3)))
