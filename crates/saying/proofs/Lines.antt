-- A row's line word by word.
use mathlib.Core.Path.{◌≡◌, refl}
use mathlib.Core.Logic.{◌≢◌}
use mathlib.Core.List.{List, [], ◌∷◌, ◌++◌}
use Prim.Native.Nat.{ℕ, zero, suc, ◌-◌}
use native.Mathlib.Omega.{arith}
use Rattle.texts.specs.Texts.{spelled, decimal, spaced}
use Rattle.saying.specs.Said.{stand_words}

-- a word before POSITION and BEYOND
pub before : (w : List ℕ) (n p : ℕ) → spaced (w ∷ stand_words n p) ≡ w ++ (32 ∷ spaced (stand_words n p))
unfolding spaced stand_words
before w zero p = refl
before w (suc beyond) p = refl

-- of a file that is not open, and of one that is
pub stands-not : (n p : ℕ) → n ≡ 0 → stand_words n p ≡ spelled "-" ∷ spelled "-" ∷ []
unfolding stand_words
stands-not n p h = rw h

pub stands : (n p : ℕ) → n ≢ 0 → stand_words n p ≡ decimal p ∷ decimal (n - 1) ∷ []
unfolding stand_words
stands zero p h = absurd (h refl)
stands (suc beyond) p h =
    let e : suc beyond - 1 ≡ beyond = omega arith in
    rw e
