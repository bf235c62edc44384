-- What is printed, line by line. Definitions only.
use Rattle.std.specs.Prelude.{List, [], ◌∷◌, ◌++◌, ℕ, zero, suc}
use Rattle.texts.specs.Texts.{spelled, decimal, spaced}
use Rattle.scripts.specs.declared.Fault.{Fault}
use Rattle.scripts.specs.declared.Fault.TheVariants.{Cut, Shape, Code, Missing, NoName, Unread}
use Rattle.scripts.specs.declared.Played.{Played}
use Rattle.scripts.specs.declared.Sums.{Sums}

-- the first line: MOUNT ANSWER
unfoldable pub mount_line : ℕ → List ℕ
mount_line n = spaced (spelled "MOUNT" ∷ decimal n ∷ [])

-- POSITION and BEYOND of a file that stands so: "- -" if it is not open, which is 0; BEYOND is 0 where that is 1, and 1 where it is 2
unfoldable pub stand_words : ℕ → ℕ → List (List ℕ)
stand_words zero p = spelled "-" ∷ spelled "-" ∷ []
stand_words (suc beyond) p = decimal p ∷ decimal beyond ∷ []

-- of each row: ROW ANSWER SUM POSITION BEYOND
unfoldable pub row_line : ℕ → Played → List ℕ
row_line n p = spaced (decimal n ∷ decimal p.number ∷ decimal p.sum ∷ stand_words p.standing p.position)

-- of an image behind the last row: IMAGE A B
unfoldable pub image_line : Sums → List ℕ
image_line s = spaced (spelled "IMAGE" ∷ decimal s.words ∷ decimal s.running ∷ [])

-- of a row that is not in order
unfoldable pub fault_words : Fault → List ℕ
fault_words (Cut k) = spelled " cut short at " ++ (decimal k ++ (32 ∷ spelled "of 16 bytes\n"))
fault_words Shape = spelled " unknown shape (word 7 is not zero, or word 6 without a granule)\n"
fault_words (Code k) = spelled " unknown code " ++ (decimal k ++ (10 ∷ []))
fault_words (Missing k) = spelled " bytes are missing for its write of " ++ (decimal k ++ (10 ∷ []))
fault_words (NoName k) = spelled " bytes are missing for its name of " ++ (decimal k ++ (10 ∷ []))
fault_words Unread = spelled " cannot be read\n"

unfoldable pub fault_line : ℕ → Fault → List ℕ
fault_line n f = spelled "ERROR row " ++ (decimal n ++ (58 ∷ fault_words f))
