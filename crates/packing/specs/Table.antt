-- Document 01, "Table to be proved": its twelve rows in a single table. Definitions only.
use Rattle.std.specs.Prelude.{Bool, ◌&&◌, List, [], ◌∷◌, ◌++◌, ℕ, length, get_or, replicate, eqb}
use Rattle.geometry.specs.Lists.{same}
use Rattle.geometry.specs.Sizes.{unblocked, blocked}
use Rattle.geometry.specs.Places.{per_sector, capacity, place_of, origin}
use Rattle.geometry.specs.declared.Place.{Place}
use Rattle.coding.specs.Encode.{code_of}
use Rattle.packing.specs.Placing.{behind_new, changes, laid}

-- the code of a record of R that begins so, with blanks behind
unfoldable pub codes : ℕ → List ℕ → List ℕ → Bool
codes R begin code = same (code_of R begin) code

unfoldable pub is_place : Place → ℕ → ℕ → Bool
is_place p s b = eqb p.sector s && eqb p.byte b

-- row 8's code: R 132, all A
unfoldable pub all_a : List ℕ
all_a = code_of 132 (replicate 132 0xC1)

-- an extent with codes put into it one after another, from a place on
unfoldable pub put_all : List (List ℕ) → Place → List ℕ → List ℕ
put_all [] p bytes = bytes
put_all (c ∷ cs) p bytes = put_all cs (behind_new p (length c)) (laid (changes p c) bytes)

-- an empty file of two sectors
unfoldable pub empty : List ℕ
empty = replicate 720 0

unfoldable pub table : List Bool
table =
    -- 1. R 80, all blanks: 00
    codes 80 [] (0x00 ∷ [])
    -- 2. R 80, AB then blanks: 02 C1 C2 00
    ∷ codes 80 (0xC1 ∷ 0xC2 ∷ []) (0x02 ∷ 0xC1 ∷ 0xC2 ∷ 0x00 ∷ [])
    -- 3. R 80, A, one blank, B: 03 C1 40 C2 00
    ∷ codes 80 (0xC1 ∷ 0x40 ∷ 0xC2 ∷ []) (0x03 ∷ 0xC1 ∷ 0x40 ∷ 0xC2 ∷ 0x00 ∷ [])
    -- 4. R 80, A, two blanks, B: 01 C1 82 01 C2 00
    ∷ codes 80 (0xC1 ∷ 0x40 ∷ 0x40 ∷ 0xC2 ∷ []) (0x01 ∷ 0xC1 ∷ 0x82 ∷ 0x01 ∷ 0xC2 ∷ 0x00 ∷ [])
    -- 5. R 80, five blanks, X: 85 01 E7 00
    ∷ codes 80 (replicate 5 0x40 ++ (0xE7 ∷ [])) (0x85 ∷ 0x01 ∷ 0xE7 ∷ 0x00 ∷ [])
    -- 6. R 80, one blank, A: 02 40 C1 00
    ∷ codes 80 (0x40 ∷ 0xC1 ∷ []) (0x02 ∷ 0x40 ∷ 0xC1 ∷ 0x00 ∷ [])
    -- 7. R 132, 130 blanks, AB: FF 83 02 C1 C2 00
    ∷ codes 132 (replicate 130 0x40 ++ (0xC1 ∷ 0xC2 ∷ [])) (0xFF ∷ 0x83 ∷ 0x02 ∷ 0xC1 ∷ 0xC2 ∷ 0x00 ∷ [])
    -- 8. R 132, all A: 135 bytes, starting 7F
    ∷ (eqb (length all_a) 135 && eqb (get_or all_a 0 0) 0x7F)
    -- 9. blocked R 100: record 2 at sector 0 byte 200, record 3 at sector 1 byte 0
    ∷ (is_place (place_of blocked 100 2) 0 200 && is_place (place_of blocked 100 3) 1 0)
    -- 10. blocked R 182: one record a sector; R 180: two
    ∷ (eqb (per_sector 182) 1 && eqb (per_sector 180) 2)
    -- 11. unblocked R 362, five sectors: capacity 2
    ∷ eqb (capacity unblocked 362 5) 2
    -- 12. two 135-byte codes in a sector, a third of 135: bytes 270–359 become 80, third at byte 0 of the next
    ∷ same (put_all (all_a ∷ all_a ∷ all_a ∷ []) origin empty) (all_a ++ (all_a ++ (replicate 90 0x80 ++ (all_a ++ replicate 225 0x80))))
    ∷ []
