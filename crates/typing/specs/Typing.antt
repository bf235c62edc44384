-- What is typed to describe a file, in ASCII: its name, its kind, a number. Definitions only.
use Rattle.std.specs.Prelude.{Bool, true, false, ◌&&◌, ◌||◌, Option, Some, None, List, [], ◌∷◌, map, ℕ, suc, min, eqb, leb, ltb, length}
use Rattle.geometry.specs.Bytes.{padded}
use Rattle.geometry.specs.Lists.{every, first_with, same}
use Rattle.geometry.specs.Sizes.{blank}
use Rattle.characters.specs.Characters.{ascii_of, ebcdic_of}
use Rattle.texts.specs.Texts.{spelled, is_digit, number_in}

-- ---- names

-- a capital's character, from A to Z
abbrev pub is_capital : ℕ → Bool
is_capital c = leb 65 c && leb c 90

-- a capital or a digit
abbrev pub is_letter : ℕ → Bool
is_letter c = is_capital c || is_digit c

-- "followed by capitals or digits, then only blanks", as it is typed
unfoldable pub rest_typed : List ℕ → Bool
rest_typed [] = true
rest_typed (c ∷ cs) = (is_letter c && rest_typed cs) || every (λ b. eqb b 32) (c ∷ cs)

-- "a name is a capital letter", and what follows it; at most eight characters
unfoldable pub is_typed_name : List ℕ → Bool
is_typed_name [] = false
is_typed_name (c ∷ cs) = is_capital c && (rest_typed cs && ltb (length cs) 8)

-- a typed character in EBCDIC; one that does not come back as itself through both tables is a 0, which no name has
unfoldable pub typed_code : ℕ → ℕ
typed_code c = elim (eqb (ascii_of (ebcdic_of c)) c) [ true ↦ ebcdic_of c | false ↦ 0 ]

-- the bytes of a typed name: blanks stand behind it, "then only blanks". More than eight characters stay more than eight bytes
unfoldable pub name_of : List ℕ → List ℕ
name_of text = padded blank 8 (map typed_code text)

-- ---- numbers and kinds

-- a number of an entry has two bytes: a greater one is taken for 65,535, which is no kind and no length, and more sectors than any image has
abbrev pub in_two_bytes : Option ℕ → Option ℕ
in_two_bytes (Some n) = Some (min n 65535)
in_two_bytes None = None

unfoldable pub number_of : List ℕ → Option ℕ
number_of text = in_two_bytes (number_in text)

-- the words of the kinds, from kind 1 on
unfoldable pub kinds : List (List ℕ)
kinds = spelled "unblocked" ∷ spelled "blocked" ∷ spelled "compressed" ∷ spelled "random" ∷ []

-- a kind by its word or its number
unfoldable pub kind_of : List ℕ → Option ℕ
kind_of text =
    let k : ℕ = first_with (same text) kinds in
    elim (ltb k (length kinds)) [ true ↦ Some (suc k) | false ↦ number_of text ]
