-- A script: rows of eight words, high byte first. Definitions only.
use Rattle.std.specs.Prelude.{Bool, true, false, ◌&&◌, ◌||◌, not, List, ℕ, ◌+◌, ◌*◌, eqb, ltb, Option, Some, None, Result, Ok, Err}
use Rattle.std.proofs.Math.ListN as list
use Rattle.geometry.specs.Bytes.{word_at}
use Rattle.requests.specs.Codes.{asked_for}
use Rattle.requests.specs.declared.Request.{Request}
use Rattle.scripts.specs.declared.Fault.{Fault}
use Rattle.scripts.specs.declared.Fault.TheVariants.{Cut, Shape, Code, Missing, NoName}
use Rattle.scripts.specs.declared.Row.{Row}

-- the codes behind those of the requests: 14 adds a file, 15 deletes one
unfoldable pub is_edit : ℕ → Bool
is_edit code = eqb code 14 || eqb code 15

-- a write's row, of code 3 or 5, uses up its length of the bytes given, and an adding's the bytes of its name
unfoldable pub used_by : ℕ → ℕ → ℕ
used_by code length = elim (eqb code 3 || (eqb code 5 || eqb code 14)) [ true ↦ length | false ↦ 0 ]

-- a granule is read, written or looked at
unfoldable pub takes_granule : ℕ → Bool
takes_granule code = eqb code 4 || (eqb code 5 || eqb code 6)

-- its number: the low word is word 3, the high word is word 6
unfoldable pub granule_in : List ℕ → ℕ
granule_in b = 65536 * word_at b 12 + word_at b 6

-- the words of a row: code, entry, length, the granule's low word, and an adding's sectors; one that is not looked at, the granule's high word, and a zero. An
-- adding has its kind, the bytes of its name and its record length in words 1, 2 and 3
unfoldable pub row_in : List ℕ → Row
row_in b = record {
  code = word_at b 0;
  entry = word_at b 2;
  granule = granule_in b;
  length = word_at b 4;
  sectors = word_at b 8;
  uses = used_by (word_at b 0) (word_at b 4);
}

-- the row whose code asks for that; a code that names no request, and neither adds nor deletes, is told
unfoldable pub row_for : List ℕ → Option Request → Result Row Fault
row_for b (Some q) = Ok (row_in b)
row_for b None = elim (is_edit (word_at b 0)) [ true ↦ Ok (row_in b) | false ↦ Err (Code (word_at b 0)) ]

-- word 7 is not zero, or word 6 is not in a row that takes no granule
unfoldable pub is_misshapen : List ℕ → Bool
is_misshapen b = not (eqb (word_at b 14) 0) || (not (eqb (word_at b 12) 0) && not (takes_granule (word_at b 0)))

-- a row has 16 bytes, its unused words 6 and 7 are zero, and its code is one of 1 to 15; what is told is the first of these that fails
unfoldable pub row_of : List ℕ → Result Row Fault
row_of b =
    elim (ltb (list.length b) 16) [
      | true ↦ Err (Cut (list.length b))
      | false ↦
          elim (is_misshapen b) [
            | true ↦ Err Shape
            | false ↦ row_for b (asked_for (word_at b 0) (granule_in b))
          ]
    ]

-- of a row for which too few bytes are left it is told how many it uses up, for its name or its write
unfoldable pub missing_for : Row → Fault
missing_for row = elim (eqb row.code 14) [ true ↦ NoName row.uses | false ↦ Missing row.uses ]
