-- What a call prints stands whole in a room of at least as many bytes: a line is a record's bytes, some dropped, and one behind them.
use mathlib.Core.Path.{◌≡◌, ◌∙◌}
use mathlib.Core.List.{List, [], ◌∷◌, ◌++◌, map}
use Prim.Native.Nat.{ℕ, ◌+◌, ◌≤◌, ◌<◌}
use native.Mathlib.Omega.{arith}
use lib.ListN.{length, take, length-append, length-take, length-map}
use lib.Seq.{take_all}
use borrow.Author.Tests.{lt-ltb}
use Rattle.coding.specs.Encode.{keeps}
use Rattle.characters.specs.Characters.{ascii_of}
use Rattle.texts.specs.Texts.{spelled, decimal}
use Rattle.texts.proofs.Reading.{digits-count}
use Rattle.showing.specs.Lines.{line_of, answer_line}
use Rattle.showing.specs.Showing.{room_for}
use Rattle.showing.proofs.Named.{put_front}
use Rattle.passes.specs.Printed.{text_in}

pub text-whole : (room xs : List ℕ) → length xs ≤ length room → text_in room xs ≡ xs
unfolding text_in
text-whole room xs h = put_front room xs ∙ take_all (length room) xs h

pub text-none : (room : List ℕ) → text_in room [] ≡ []
text-none room = text-whole room [] (omega arith)

pub line-most : (bytes : List ℕ) → length (line_of bytes) ≤ length bytes + 1
unfolding line_of
line-most bytes =
    let n : ℕ = keeps (length bytes) bytes in
    let kept : List ℕ = take n bytes in
    omega (arith, length-append (map ascii_of kept) (10 ∷ []), length-map kept ascii_of, length-take n bytes)

-- room for a record where a byte is left behind it
pub room-for : (R : ℕ) (out : List ℕ) → R < length out → room_for R out ≡ R
unfolding room_for
room-for R out h = rw (lt-ltb R (length out) h, room_for)

-- the line of a number has seven characters, ten digits at most and the end
pub answer-most : (n : ℕ) → length (answer_line n) ≤ 18
unfolding answer_line spelled decimal
answer-most n = omega (arith, length-append (spelled "ANSWER ") (decimal n ++ (10 ∷ [])), length-append (decimal n) (10 ∷ []), (digits-count 10 n).0)
