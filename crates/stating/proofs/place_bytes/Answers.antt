-- Each field's bytes, one behind another.
use mathlib.Core.Path.{ap₂}
use mathlib.Core.List.{List, ◌++◌}
use Prim.Native.Nat.{ℕ}
use Rattle.storing.specs.Stored.{place_stored}
use Rattle.stating.proofs.Numbers.{four-bytes}
use Rattle.stating.proofs.place_bytes.Goals as goal

pub returns : goal.returns
unfolding place_stored
returns c = ap₂ (λ (x y : List ℕ). x ++ y) (four-bytes _ _ c.to_le_bytes-s.ensures) (four-bytes _ _ c.to_le_bytes-b.ensures)
