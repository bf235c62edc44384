-- Document 02, item 4: "blank, capitals, digits and the marks . < ( + & $ * ) ; - / , % _ > ? : # @ ' = " at their standard codes". Definitions only.
use Rattle.std.specs.Prelude.{Bool, List, [], ◌∷◌, ℕ, eqb, ltb, length, get_or}
use Rattle.geometry.specs.Lists.{first_with}
use Rattle.geometry.specs.Sizes.{blank}
use Rattle.texts.specs.Texts.{spelled}

-- the 59 characters in ASCII
unfoldable pub listed : List ℕ
listed = spelled " ABCDEFGHIJKLMNOPQRSTUVWXYZ0123456789.<(+&$*);-/,%_>?:#@'=\""

-- and in EBCDIC, in the same order: the blank, A to I, J to R, S to Z, 0 to 9, and the marks
unfoldable pub codes : List ℕ
codes =
    0x40
    ∷ 0xC1 ∷ 0xC2 ∷ 0xC3 ∷ 0xC4 ∷ 0xC5 ∷ 0xC6 ∷ 0xC7 ∷ 0xC8 ∷ 0xC9
    ∷ 0xD1 ∷ 0xD2 ∷ 0xD3 ∷ 0xD4 ∷ 0xD5 ∷ 0xD6 ∷ 0xD7 ∷ 0xD8 ∷ 0xD9
    ∷ 0xE2 ∷ 0xE3 ∷ 0xE4 ∷ 0xE5 ∷ 0xE6 ∷ 0xE7 ∷ 0xE8 ∷ 0xE9
    ∷ 0xF0 ∷ 0xF1 ∷ 0xF2 ∷ 0xF3 ∷ 0xF4 ∷ 0xF5 ∷ 0xF6 ∷ 0xF7 ∷ 0xF8 ∷ 0xF9
    ∷ 0x4B ∷ 0x4C ∷ 0x4D ∷ 0x4E ∷ 0x50 ∷ 0x5B ∷ 0x5C ∷ 0x5D ∷ 0x5E ∷ 0x60 ∷ 0x61
    ∷ 0x6B ∷ 0x6C ∷ 0x6D ∷ 0x6E ∷ 0x6F ∷ 0x7A ∷ 0x7B ∷ 0x7C ∷ 0x7D ∷ 0x7E ∷ 0x7F
    ∷ []

-- whether a list has c
unfoldable pub among : List ℕ → ℕ → Bool
among xs c = ltb (first_with (eqb c) xs) (length xs)

-- what stands in a second list where c stands in the first; `other` where it stands nowhere
unfoldable pub across : List ℕ → List ℕ → ℕ → ℕ → ℕ
across xs ys other c = get_or ys (first_with (eqb c) xs) other

-- "from EBCDIC to ASCII", "every other byte shown as a full stop"
unfoldable pub ascii_of : ℕ → ℕ
ascii_of c = across codes listed 0x2E c

-- "and one of 256 back", "Unlisted ASCII goes back to blank"
unfoldable pub ebcdic_of : ℕ → ℕ
ebcdic_of c = across listed codes blank c
