-- The number in four bytes, as std takes them together: each byte counts 256 times the one before it.
use mathlib.Core.Path.{◌≡◌}
use mathlib.Core.List.{List, [], ◌∷◌}
use Prim.Native.Nat.{ℕ, ◌+◌, ◌≤◌}
use native.Mathlib.Omega.{arith}
use lib.ListN.{length, get_or}
use Rattle.std.specs.Int.{from_le_bytes, w32}
use Rattle.geometry.specs.Bytes.{part}
use Rattle.tables.specs.Numbers.{number_in}
use Rattle.storing.proofs.Numbers.{written}

module _ (b : List ℕ) (at : ℕ) where
  pub four-in : at + 4 ≤ length b → (n : ℕ) → n ≡ from_le_bytes w32 (get_or b at 0 ∷ get_or b (at + 1) 0 ∷ get_or b (at + 2) 0 ∷ get_or b (at + 3) 0 ∷ [])
      → n ≡ number_in (part b at 4)
  unfolding number_in
  four-in h n e = rw (written b at 3 h) (omega (arith, e))
