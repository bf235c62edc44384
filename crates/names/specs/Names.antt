-- Document 01, "A directory is good exactly if": what a name is. Definitions only.
use Rattle.std.specs.Prelude.{Bool, true, false, ◌&&◌, ◌||◌, List, [], ◌∷◌, ℕ, eqb, leb}
use Rattle.geometry.specs.Lists.{every}
use Rattle.geometry.specs.Sizes.{blank}

-- "a capital letter (C1–C9, D1–D9, E2–E9)"
unfoldable pub capital : ℕ → Bool
capital c = (leb 0xC1 c && leb c 0xC9) || ((leb 0xD1 c && leb c 0xD9) || (leb 0xE2 c && leb c 0xE9))

-- "digits (F0–F9)"
unfoldable pub digit : ℕ → Bool
digit c = leb 0xF0 c && leb c 0xF9

-- "followed by capitals or digits (F0–F9), then only blanks"
unfoldable pub rest_of_name : List ℕ → Bool
rest_of_name [] = true
rest_of_name (c ∷ cs) = ((capital c || digit c) && rest_of_name cs) || every (λ b. eqb b blank) (c ∷ cs)

-- "a name is a capital letter (C1–C9, D1–D9, E2–E9)", and what follows it
unfoldable pub is_name : List ℕ → Bool
is_name [] = false
is_name (c ∷ cs) = capital c && rest_of_name cs
