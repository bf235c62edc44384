-- Numbers for C, case by case: the answer to a code that names no request, and what decoding gives.
use mathlib.Core.Path.{◌≡◌, refl}
use Prim.Native.Nat.{◌≤◌}
use Rattle.std.specs.Result.{result_unwrap_or}
use borrow.Author.Tests.{le-leb}
use Rattle.decoding.specs.Decode.{Decoded, good, bad, answer}
use Rattle.requests.specs.Numbers.{number_of}
use Rattle.requests.specs.declared.Answer.{Answer}
use Rattle.numbering.specs.Codes.{unknown_number, code_size}

-- ---- a code that names no request

pub first-tests : (look : Answer) → 8 ≤ number_of look → unknown_number look ≡ number_of look
unfolding unknown_number
first-tests look h = rw (le-leb 8 (number_of look) h, unknown_number)

-- ---- what decoding gives

pub answer-size : (d : Decoded) → result_unwrap_or (answer d) 0 ≡ code_size d
unfolding answer code_size
answer-size (good xs e) = refl
answer-size (bad k) = refl
