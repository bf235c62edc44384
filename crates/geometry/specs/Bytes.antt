-- Bytes as lists of numbers: a part, bytes laid over a part, words, padding. Definitions only.
use Rattle.std.specs.Prelude.{Bool, true, false, List, [], ◌∷◌, ◌++◌, ℕ, ◌+◌, ◌-◌, ◌*◌, ◌/◌, ◌%◌, length, take, drop, get_or, replicate, leb, ltb}

-- a byte is a number below 256
abbrev pub is_byte : ℕ → Bool
is_byte b = ltb b 256

-- the n bytes from byte `at` on, as far as there are any
unfoldable pub part : List ℕ → ℕ → ℕ → List ℕ
part xs at n = take n (drop at xs)

-- xs with the bytes ys in place of its own from byte `at` on; as it was where they do not fit
unfoldable pub lay : List ℕ → ℕ → List ℕ → List ℕ
lay xs at ys = elim (leb (at + length ys) (length xs)) [ true ↦ take at xs ++ (ys ++ drop (at + length ys) xs) | false ↦ xs ]

-- "words of 16 bits, high byte first": the word at byte `at`; past the end stand zeros
unfoldable pub word_at : List ℕ → ℕ → ℕ
word_at xs at = 256 * get_or xs at 0 + get_or xs (at + 1) 0

-- the two bytes of a word
unfoldable pub word : ℕ → List ℕ
word n = n / 256 ∷ n % 256 ∷ []

-- xs with the byte b behind it up to n bytes
unfoldable pub padded : ℕ → ℕ → List ℕ → List ℕ
padded b n xs = xs ++ replicate (n - length xs) b
