-- A list of four members is those four, and so is its image.
use mathlib.Core.Path.{◌≡◌, refl}
use mathlib.Core.List.{List, [], ◌∷◌, map}
use native.Mathlib.Omega.{arith}
use lib.ListN.{length, get_or}

pub four : {A B : Type 0} (f : A → B) (xs : List A) (d : A) → length xs ≡ 4
    → f (get_or xs 0 d) ∷ f (get_or xs 1 d) ∷ f (get_or xs 2 d) ∷ f (get_or xs 3 d) ∷ [] ≡ map f xs
four f [] d h = absurd (omega arith)
four f (a ∷ []) d h = absurd (omega arith)
four f (a ∷ b ∷ []) d h = absurd (omega arith)
four f (a ∷ b ∷ c ∷ []) d h = absurd (omega arith)
four f (a ∷ b ∷ c ∷ e ∷ []) d h = refl
four f (a ∷ b ∷ c ∷ e ∷ x ∷ xs) d h = absurd (omega arith)
