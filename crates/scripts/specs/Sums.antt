-- Sums of words modulo 65,535. Definitions only.
use Rattle.std.specs.Prelude.{List, [], ◌∷◌, ℕ, ◌+◌, ◌*◌, ◌%◌}
use Rattle.scripts.specs.declared.Sums.{Sums}

-- the words of some bytes; an odd last byte counts as the high byte of a word
unfoldable pub words_of : List ℕ → List ℕ
words_of [] = []
words_of (x ∷ []) = 256 * x ∷ []
words_of (x ∷ y ∷ r) = (256 * x + y) ∷ words_of r

unfoldable pub total : List ℕ → ℕ
total [] = 0
total (w ∷ ws) = w + total ws

unfoldable pub sum_of : List ℕ → ℕ
sum_of ws = total ws % 65535

-- the sums behind each word, the sum before them being a
unfoldable pub running : ℕ → List ℕ → List ℕ
running a [] = []
running a (w ∷ ws) = (a + w) % 65535 ∷ running ((a + w) % 65535) ws

unfoldable pub sums_of : List ℕ → Sums
sums_of bytes = record { words = sum_of (words_of bytes); running = sum_of (running 0 (words_of bytes)) }
