-- `tables::eight_in` meets its contract: the number of the eight bytes that stand there.
use Prim.Native.Nat.{ℕ}
use mathlib.Core.Path.{ap, ◌∙◌}
use native.Mathlib.Omega.{arith}
use Rattle.std.specs.Int.{w64, from_le_bytes}
use Rattle.tables.proofs.Numbers.{from_le-part, eight-bytes}
use Rattle.tables.proofs.eight_in.Goals as goal

pub returns : goal.returns
returns c =
    let a = c.args in (
      c.from_le_bytes.ensures ∙ ap (from_le_bytes w64) c.eight_bytes.ensures ∙ from_le-part a.b.now a.at c.requires,
      eight-bytes a.b.now (λ (k : ℕ). omega (arith, c.type_inv.b k)) a.at c.requires,
    )
