-- Numbers in bytes, low byte first, and truth values in one byte. Definitions only.
use Rattle.std.specs.Prelude.{Bool, true, false, List, [], ◌∷◌, ℕ, zero, suc, ◌/◌, ◌%◌, eqb, leb}

-- the n bytes of a number; `number_in` of tables is the number that bytes hold
unfoldable pub bytes_of : ℕ → ℕ → List ℕ
bytes_of zero x = []
bytes_of (suc n) x = x % 256 ∷ bytes_of n (x / 256)

-- 1 for yes, 0 for no
unfoldable pub flag_of : Bool → ℕ
flag_of true = 1
flag_of false = 0

-- whether a byte says yes
abbrev pub is_set : ℕ → Bool
is_set b = eqb b 1

-- whether a byte says yes or no
abbrev pub is_flag : ℕ → Bool
is_flag b = leb b 1
