-- `moving::lay_pieces` meets its contract. The invariant: the first i bytes of xs are laid; the last turn lays some of them again.
use mathlib.Core.Path.{◌≡◌}
use mathlib.Core.List.{List}
use Prim.Native.Nat.{ℕ, ◌+◌, ◌-◌, ◌≤◌}
use lib.ListN.{length, take}
use Rattle.geometry.specs.Bytes.{lay}
use Rattle.moving.proofs.lay_pieces.Given as goal

abbrev Laid : List ℕ → ℕ → List ℕ → List ℕ → ℕ → Type 0
Laid old at xs out i = (at + length xs ≤ length old) × (32 ≤ length xs) × (i ≤ length xs) × (length out ≡ length old) × (out ≡ lay old at (take i xs))

abbrev pub invariant-loop-i : goal.invariant-loop-i
invariant-loop-i l = Laid l.initial.out l.at l.xs l.out l.i

abbrev pub decreases-loop-i : goal.decreases-loop-i
decreases-loop-i l = length l.xs - l.i
