-- Texts as ASCII bytes, and what it is to put one into bytes that are lent. Definitions only.
use Rattle.std.specs.Prelude.{◌≡◌, Bool, true, false, ◌&&◌, Option, Some, None, List, [], ◌∷◌, ◌++◌, ℕ, zero, suc, ◌+◌, ◌-◌, ◌*◌, ◌/◌, ◌%◌, min, length, leb, ltb}
use Prim.Native.Char.{code}
use Prim.Native.String.{String, [] as end, ◌∷◌ as ◌then◌}
use Rattle.std.proofs.lemmas.List.Edits.{sets}

-- the numbers of a text's characters
unfoldable pub spelled : String → List ℕ
spelled end = []
spelled (c then s) = code c ∷ spelled s

-- a number below 10 ^ k in "decimal"
unfoldable pub decimal_in : ℕ → ℕ → List ℕ
decimal_in zero n = []
decimal_in (suc k) n = elim (ltb n 10) [ true ↦ (48 + n) ∷ [] | false ↦ decimal_in k (n / 10) ++ ((48 + n % 10) ∷ []) ]

-- a number of 32 bits has at most ten digits
unfoldable pub decimal : ℕ → List ℕ
decimal n = decimal_in 10 n

-- words with "single blanks" between them, and the line's end
unfoldable pub spaced : List (List ℕ) → List ℕ
spaced [] = 10 ∷ []
spaced (w ∷ []) = w ++ (10 ∷ [])
spaced (w ∷ v ∷ ws) = w ++ (32 ∷ spaced (v ∷ ws))

-- the bytes xs were put at place a and behind it, as far as there is room; b is the place behind them
pub record Wrote (old : List ℕ) (a : ℕ) (xs new : List ℕ) (b : ℕ) : Type 0 where
  pub ends : b ≡ a + min (length xs) (length old - a)
  pub puts : new ≡ sets old a xs

-- ---- and back

-- a digit's character, from 0 to 9
abbrev pub is_digit : ℕ → Bool
is_digit c = leb 48 c && leb c 57

-- a number with a digit more behind it; there is none where c is no digit, or where it has more than 32 bits
unfoldable pub with_digit : Option ℕ → ℕ → Option ℕ
with_digit (Some n) c = elim (is_digit c && ltb (10 * n + (c - 48)) 4294967296) [ true ↦ Some (10 * n + (c - 48)) | false ↦ None ]
with_digit None c = None

-- with one after another
unfoldable pub with_digits : Option ℕ → List ℕ → Option ℕ
with_digits r [] = r
with_digits r (c ∷ cs) = with_digits (with_digit r c) cs

-- the number that a text of one to ten digits says: proofs/Reading.antt shows that it reads "decimal" back
unfoldable pub number_in : List ℕ → Option ℕ
number_in xs = elim (leb 1 (length xs) && leb (length xs) 10) [ true ↦ with_digits (Some 0) xs | false ↦ None ]
