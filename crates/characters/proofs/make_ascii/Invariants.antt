-- `characters::make_ascii` meets its contract: the bytes before the index are ASCII, and the others are as they were.
use Rattle.std.specs.Prelude.{◌≡◌, ℕ, ◌<◌, ◌≤◌, get_or}
use Rattle.characters.specs.Characters.{ascii_of}
use Rattle.characters.proofs.make_ascii.Given as goal

abbrev pub invariant-loop-c : goal.invariant-loop-c
invariant-loop-c l =
    ((k : ℕ) → k < l.c-index → get_or l.bytes k 0 ≡ ascii_of (get_or l.initial.bytes k 0)) × ((k : ℕ) → l.c-index ≤ k → get_or l.bytes k 0 ≡ get_or l.initial.bytes k 0)
