-- Numbers in bytes: long ones, high word first, and any, low byte first, which is how bytes are compared at once. Definitions only.
use Rattle.std.specs.Prelude.{List, [], ◌∷◌, ◌++◌, ℕ, ◌+◌, ◌*◌, ◌/◌, ◌%◌}
use Rattle.geometry.specs.Bytes.{word_at, word}

-- two words, high word first; past the end stand zeros
unfoldable pub long_at : List ℕ → ℕ → ℕ
long_at b at = 65536 * word_at b at + word_at b (at + 2)

-- the four bytes of such a number
unfoldable pub long : ℕ → List ℕ
long n = word (n / 65536) ++ word (n % 65536)

-- the number that bytes hold, the first counting least
unfoldable pub number_in : List ℕ → ℕ
number_in [] = 0
number_in (b ∷ bs) = b + 256 * number_in bs
