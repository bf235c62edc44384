-- What C reads as numbers: the answer to a code that names no request, where a file stands, and the size of a code. Definitions only.
use Rattle.std.specs.Prelude.{true, false, ℕ, leb, Option, Some, None}
use Rattle.decoding.specs.Decode.{Decoded, good, bad}
use Rattle.requests.specs.Numbers.{number_of}
use Rattle.requests.specs.declared.Answer.{Answer}
use Rattle.sessions.specs.declared.Spot.{Spot}

-- a code that names no request: 12 and 8 where a look gives them, and then 7, since it is wrong for every kind of file
unfoldable pub unknown_number : Answer → ℕ
unknown_number look = elim (leb 8 (number_of look)) [ true ↦ number_of look | false ↦ 7 ]

-- 0 not open, 1 open, 2 open and beyond the mark
unfoldable pub standing : Option Spot → ℕ
standing None = 0
standing (Some s) = elim s.beyond [ false ↦ 1 | true ↦ 2 ]

-- the record that a file stands at; what was there before where it is not open
unfoldable pub record_at : Option Spot → ℕ → ℕ
record_at None old = old
record_at (Some s) old = s.record

-- the bytes of a code; 0 where it is bad, since no good code is empty
unfoldable pub code_size : Decoded → ℕ
code_size (good xs n) = n
code_size (bad k) = 0
