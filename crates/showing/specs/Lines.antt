-- Document 02, item 4, "Readable pass listing": what is printed of a record, and of a number. Definitions only.
use Rattle.std.specs.Prelude.{Bool, true, false, ◌||◌, List, [], ◌∷◌, ◌++◌, map, ℕ, zero, suc, eqb, length, take}
use Rattle.coding.specs.Encode.{keeps}
use Rattle.characters.specs.Characters.{ascii_of}
use Rattle.texts.specs.Texts.{spelled, decimal}

-- "writes one ASCII line per record, trailing blanks dropped"
unfoldable pub line_of : List ℕ → List ℕ
line_of bytes = map ascii_of (take (keeps (length bytes) bytes) bytes) ++ (10 ∷ [])

-- "printed as `ANSWER` and the number"
unfoldable pub answer_line : ℕ → List ℕ
answer_line n = spelled "ANSWER " ++ (decimal n ++ (10 ∷ []))

-- "Printing ends at end of file or at an unmarked end": the numbers that a read of a sequential file has there
abbrev pub is_end : ℕ → Bool
is_end n = eqb n 1 || eqb n 7

-- what a read prints by its number: the record's line; nothing at an end; "any other number is printed as `ANSWER` and the number, last"
unfoldable pub printed : ℕ → List ℕ → List ℕ
printed zero bytes = line_of bytes
printed (suc n) bytes = elim (is_end (suc n)) [ true ↦ [] | false ↦ answer_line (suc n) ]

-- and what is printed before the first read, where a number other than 0 is "only" that line
unfoldable pub printed_first : ℕ → List ℕ
printed_first zero = []
printed_first (suc n) = answer_line (suc n)
