-- What a caller is told of a session in lent bytes, entry by entry, and of an answer's number. Definitions only.
use Rattle.std.specs.Prelude.{true, false, List, [], ◌∷◌, ℕ, Result, Ok, Err, get_or}
use Rattle.directory.specs.Entries.{entry_at, is_free}
use Rattle.directory.specs.Search.{find}
use Rattle.directory.specs.declared.Entry.{Entry}
use Rattle.requests.specs.Numbers.{number_of}
use Rattle.requests.specs.declared.Answer.TheVariants.{Refused}
use Rattle.requests.specs.declared.Refusal.{Refusal}
use Rattle.storing.specs.Stored.{has_buffers, is_session, lent_session}
use Rattle.texts.specs.Texts.{spelled}

-- "An entry is also found by name": 0 and its number, or 8, in the session's table; 12 where the bytes are no session
unfoldable pub found : List ℕ → List ℕ → ℕ × List ℕ
found b name = elim (is_session (has_buffers b) b) [ true ↦ find (lent_session b).table name | false ↦ (12, []) ]

-- what a search hands out, as it is told: 0 and the entry's number, or the number of why there is none
abbrev pub told_of : Result ℕ Refusal → ℕ × List ℕ
told_of (Ok i) = (0, i ∷ [])
told_of (Err x) = (number_of (Refused x), [])

-- the fields of an entry behind its name, from number 1 on, in the order of its bytes; none other than 0 of a free entry
unfoldable pub field_of : Entry → ℕ → ℕ
field_of e k = elim (is_free e) [ true ↦ 0 | false ↦ get_or (0 ∷ e.kind ∷ e.length ∷ e.first ∷ e.sectors ∷ e.count ∷ e.flags ∷ []) k 0 ]

-- of entry i of a session; 0 where the bytes are none
unfoldable pub field_in : List ℕ → ℕ → ℕ → ℕ
field_in b i k = elim (is_session (has_buffers b) b) [ true ↦ field_of (entry_at (lent_session b).table i) k | false ↦ 0 ]

-- "Answer numbers": what each is given for; 13 to 17 are document 02's, and its DELETE gives 9 too
unfoldable pub words : List (List ℕ)
words =
    spelled "done"
    ∷ spelled "end of file met"
    ∷ spelled "beginning of tape met"
    ∷ spelled "no room"
    ∷ spelled "write or mark on a protected file"
    ∷ spelled "odd byte count in a write"
    ∷ spelled "write of 0 or over R bytes, or read buffer under R"
    ∷ spelled "wrong kind for the request, or out of sequence"
    ∷ spelled "no such entry, or not open"
    ∷ spelled "opening or deleting an open file"
    ∷ spelled "a fifth open file"
    ∷ spelled "bad image, or bad code met"
    ∷ spelled "session not legal for this image"
    ∷ spelled "bad name"
    ∷ spelled "name in use"
    ∷ spelled "no free entry"
    ∷ spelled "no gap of that many sectors"
    ∷ spelled "bad kind, length or sector count 0"
    ∷ []

unfoldable pub words_of : ℕ → List ℕ
words_of n = get_or words n (spelled "no such number")
