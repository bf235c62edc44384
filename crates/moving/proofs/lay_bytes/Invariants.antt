-- `moving::lay_bytes` meets its contract. The invariant: the first i bytes of xs are laid.
use mathlib.Core.Path.{◌≡◌}
use Prim.Native.Nat.{◌+◌, ◌≤◌, ◌-◌}
use lib.ListN.{length, take}
use Rattle.geometry.specs.Bytes as Bytes
use Rattle.moving.proofs.lay_bytes.Given as goal

abbrev pub invariant-loop-i : goal.invariant-loop-i
invariant-loop-i l = (l.at + length l.xs ≤ length l.initial.out) × (l.i ≤ length l.xs) × (length l.out ≡ length l.initial.out) × (l.out ≡ Bytes.lay l.initial.out l.at (take l.i l.xs))

abbrev pub decreases-loop-i : goal.decreases-loop-i
decreases-loop-i l = length l.xs - l.i
