-- A list tested from its front, by a rule of one member: what is left of it decides.
use mathlib.Core.Path.{◌≡◌, ◌∙◌}
use mathlib.Core.Bool.{Bool, true, false}
use mathlib.Core.List.{List}
use Prim.Native.Nat.{ℕ, ◌+◌, ◌≤◌, ◌<◌}
use lib.ListN.{length, drop, get_or, drop_of_length-le}
use Rattle.geometry.specs.Lists.{every}
use Rattle.geometry.proofs.Tests.{every-left}

module _ {A : Type 0} (p : A → Bool) (xs : List A) (i : ℕ) where
  pub every-end : length xs ≤ i → every p (drop i xs) ≡ true
  unfolding every
  every-end h = rw (drop_of_length-le xs h)

  module _ (d : A) (h : i < length xs) where
    pub every-on : p (get_or xs i d) ≡ true → every p (drop i xs) ≡ every p (drop (i + 1) xs)
    every-on e = every-left p xs i d h ∙ rw e

    pub every-off : p (get_or xs i d) ≡ false → every p (drop i xs) ≡ false
    every-off e = every-left p xs i d h ∙ rw e
