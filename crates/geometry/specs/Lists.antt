-- Tests over lists: the words in which the rules of document 01 are written. Definitions only.
use Rattle.std.specs.Prelude.{Bool, true, false, ◌&&◌, List, [], ◌∷◌, ℕ, zero, suc, eqb}

-- all of some rules hold
unfoldable pub all : List Bool → Bool
all [] = true
all (b ∷ bs) = b && all bs

module _ {A : Type 0} where
  -- a rule holds of every member of a list
  unfoldable pub every : (A → Bool) → List A → Bool
  every p [] = true
  every p (x ∷ xs) = p x && every p xs

  -- a rule holds of every two members, the earlier one first
  unfoldable pub pairwise : (A → A → Bool) → List A → Bool
  pairwise r [] = true
  pairwise r (x ∷ xs) = every (r x) xs && pairwise r xs

  -- the number of the first member of which p holds; the list's length if there is none
  unfoldable pub first_with : (A → Bool) → List A → ℕ
  first_with p [] = 0
  first_with p (x ∷ xs) = elim (p x) [ true ↦ 0 | false ↦ suc (first_with p xs) ]

  -- how many members p holds of
  unfoldable pub how_many : (A → Bool) → List A → ℕ
  how_many p [] = 0
  how_many p (x ∷ xs) = elim (p x) [ true ↦ suc (how_many p xs) | false ↦ how_many p xs ]

-- two lists of numbers are the same
unfoldable pub same : List ℕ → List ℕ → Bool
same [] [] = true
same [] (y ∷ ys) = false
same (x ∷ xs) [] = false
same (x ∷ xs) (y ∷ ys) = eqb x y && same xs ys

-- n numbers, from a on
abbrev pub numbers_from : ℕ → ℕ → List ℕ
numbers_from a zero = []
numbers_from a (suc n) = a ∷ numbers_from (suc a) n
