-- A number that two bytes do not hold is taken for 65,535, and that is refused as the number would be: it is no kind, it is odd, and no image has
-- so many sectors.
use mathlib.Core.Path.{◌≡◌, refl, ap, ◌∙◌}
use mathlib.Core.Bool.{Bool, false, ◌&&◌, and-false}
use Prim.Native.Nat.{ℕ, ◌≤◌}
use native.Mathlib.Omega.{arith}
use lib.Dec.{leb}
use Rattle.gaps.specs.Gaps.{lowest_gap}
use Rattle.shapes.specs.Made.{shape_good, file_made}
use Rattle.gaps.proofs.Gaps.{gap_is, stands-outside}

pub no_kind : (length sectors : ℕ) → shape_good 65535 length sectors ≡ false
unfolding shape_good
no_kind length sectors = refl

pub no_length : (kind sectors : ℕ) → shape_good kind 65535 sectors ≡ false
unfolding shape_good file_made
no_length kind sectors = ap (leb 1 kind &&◌) (and-false (leb kind 4)) ∙ and-false (leb 1 kind)

pub no_gap : (taken : ℕ → Bool) (N : ℕ) → N ≤ 4096 → lowest_gap taken N 65535 ≡ N
no_gap taken N h =
    gap_is taken N 65535 N (omega arith) (λ q l. stands-outside taken N 65535 q (omega arith)) (λ l. absurd (omega arith))
