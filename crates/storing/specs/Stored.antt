-- A session in bytes that a caller lends: 18 entries of 22 bytes, then four open-file states, with a buffer each or without, then what it says of itself. Definitions only.
use Rattle.std.specs.Prelude.{Bool, true, false, ◌&&◌, not, List, [], ◌∷◌, ◌++◌, ℕ, ◌+◌, ◌*◌, eqb, ltb, length, get_or, replicate}
use Rattle.geometry.specs.Bytes.{part, lay, is_byte}
use Rattle.geometry.specs.Lists.{all, every}
use Rattle.geometry.specs.Sizes.{sector, entries, most_open}
use Rattle.tables.specs.Numbers.{number_in}
use Rattle.tables.specs.Rows.{row_of, row_in}
use Rattle.directory.specs.Entries.{table_of, free_entry}
use Rattle.tables.specs.Tables.{one_word_wide, two_words_wide, has_rows, entry_of, entries_in}
use Rattle.sessions.specs.Session.{idle, fresh, bare, unheld}
use Rattle.geometry.specs.declared.Place.{Place}
use Rattle.directory.specs.declared.Entry.{Entry}
use Rattle.sessions.specs.declared.BufferedFile.{BufferedFile}
use Rattle.sessions.specs.declared.BufferedSession.{BufferedSession}
use Rattle.sessions.specs.declared.Holding.{Holding}
use Rattle.sessions.specs.declared.OpenFile.{OpenFile}
use Rattle.sessions.specs.declared.Saying.{Saying}
use Rattle.sessions.specs.declared.Session.{Session}
use Rattle.storing.specs.Numbers.{bytes_of, flag_of, is_set, is_flag}

-- ---- sizes

-- an open-file state: 1, 8, 4, 1, then 4 and 4 for each of two places
abbrev pub file_width : ℕ
file_width = 30

-- and with its buffer: 1, 4, 1 and 360 more
abbrev pub held_width : ℕ
held_width = 396

-- where the open-file states begin, behind 18 entries
abbrev pub files_at : ℕ
files_at = 396

-- a session has a buffer for each open file, or none; the bytes of a state
unfoldable pub width : Bool → ℕ
width true = held_width
width false = file_width

-- where what a session says of itself stands, behind four states, and its bytes: 1
abbrev pub said_at : Bool → ℕ
said_at u = files_at + width u * most_open

abbrev pub said_width : ℕ
said_width = 1

-- the bytes of a session: 1,981 or 517
unfoldable pub size_of : Bool → ℕ
size_of u = said_at u + said_width

-- the number of the bytes lent says which
unfoldable pub has_buffers : List ℕ → Bool
has_buffers b = eqb (length b) (size_of true)

-- ---- an open-file state

unfoldable pub place_stored : Place → List ℕ
place_stored p = bytes_of 4 p.sector ++ bytes_of 4 p.byte

unfoldable pub place_in : List ℕ → ℕ → Place
place_in b at = record { sector = number_in (part b at 4); byte = number_in (part b (at + 4) 4) }

unfoldable pub file_stored : OpenFile → List ℕ
file_stored f =
    (flag_of f.used ∷ [])
    ++ (bytes_of 8 f.entry
    ++ (bytes_of 4 f.position ++ ((flag_of f.beyond ∷ []) ++ (place_stored f.here ++ place_stored f.end))))

unfoldable pub file_in : List ℕ → ℕ → OpenFile
file_in b at = record {
  used = is_set (get_or b at 0);
  entry = number_in (part b (at + 1) 8);
  position = number_in (part b (at + 9) 4);
  beyond = is_set (get_or b (at + 13) 0);
  here = place_in b (at + 14);
  end = place_in b (at + 22);
}

-- each of its truth values is 0 or 1
unfoldable pub file_flags : List ℕ → ℕ → Bool
file_flags b at = is_flag (get_or b at 0) && is_flag (get_or b (at + 13) 0)

-- ---- and one with its buffer

-- whether it holds a sector, which, and whether that is changed
unfoldable pub hold_stored : Holding → List ℕ
hold_stored h = (flag_of h.holds ∷ []) ++ (bytes_of 4 h.held ++ (flag_of h.changed ∷ []))

-- what a state holds, without the bytes
abbrev pub hold_of : BufferedFile → Holding
hold_of f = record { holds = f.holds; held = f.held; changed = f.changed }

-- nothing held
abbrev pub no_hold : Holding
no_hold = record { holds = false; held = 0; changed = false }

unfoldable pub held_stored : BufferedFile → List ℕ
held_stored f = file_stored f.file ++ (hold_stored (hold_of f) ++ f.buffer)

unfoldable pub held_in : List ℕ → ℕ → BufferedFile
held_in b at = record {
  file = file_in b at;
  holds = is_set (get_or b (at + 30) 0);
  held = number_in (part b (at + 31) 4);
  changed = is_set (get_or b (at + 35) 0);
  buffer = part b (at + 36) sector;
}

unfoldable pub held_flags : List ℕ → ℕ → Bool
held_flags b at = file_flags b at && (is_flag (get_or b (at + 30) 0) && is_flag (get_or b (at + 35) 0))

-- ---- a state of a session with buffers, or of one with none, where it holds nothing

unfoldable pub state_stored : Bool → BufferedFile → List ℕ
state_stored true f = held_stored f
state_stored false f = file_stored f.file

unfoldable pub state_in : Bool → List ℕ → ℕ → BufferedFile
state_in true b at = held_in b at
state_in false b at = fresh (file_in b at)

unfoldable pub state_flags : Bool → List ℕ → ℕ → Bool
state_flags true b at = held_flags b at
state_flags false b at = file_flags b at

-- ---- what a session says of itself

-- whether it is from a refused mounting
unfoldable pub saying_stored : Saying → List ℕ
saying_stored s = flag_of s.refused ∷ []

unfoldable pub saying_in : List ℕ → ℕ → Saying
saying_in b at = record { refused = is_set (get_or b at 0) }

-- each of its truth values is 0 or 1
unfoldable pub saying_flags : List ℕ → ℕ → Bool
saying_flags b at = is_flag (get_or b at 0)

-- ---- a session

-- 18 entries, then four open-file states, then what it says of itself
unfoldable pub stored : Bool → BufferedSession → List ℕ
stored u s = row_of (entry_of two_words_wide) s.table ++ (row_of (state_stored u) s.files ++ saying_stored s.says)

-- whether bytes are a session: as many as it takes, each truth value 0 or 1
unfoldable pub is_session : Bool → List ℕ → Bool
is_session u b =
    every is_byte b && (eqb (length b) (size_of u) && (all (row_in (state_flags u) (width u) most_open b files_at) && saying_flags b (said_at u)))

-- the table that bytes hold
abbrev pub table_in : List ℕ → List Entry
table_in b = entries_in two_words_wide entries b

-- the open-file states
unfoldable pub states_in : Bool → List ℕ → List BufferedFile
states_in u b = row_in (state_in u) (width u) most_open b files_at

-- an entry of no kind, which no table may have
abbrev pub unlawful_entry : Entry
unlawful_entry = record { name = replicate 8 0; kind = 5; length = 0; first = 0; sectors = 0; count = 0; flags = 0 }

-- "bytes that are no session are a session that is not legal": its entries are of no kind that there is
unfoldable pub unlawful : BufferedSession
unlawful = record { says = record { refused = false }; table = replicate entries unlawful_entry; files = replicate most_open (fresh idle) }

-- the session that bytes are
unfoldable pub session_in : Bool → List ℕ → BufferedSession
session_in u b = elim (is_session u b) [
  | true ↦ record { says = saying_in b (said_at u); table = table_in b; files = states_in u b }
  | false ↦ unlawful
]

-- with buffers or without, by the number of the bytes
abbrev pub lent_session : List ℕ → BufferedSession
lent_session b = session_in (has_buffers b) b

-- of the engine with no buffer
abbrev pub plain_in : List ℕ → Session
plain_in b = bare (session_in false b)

abbrev pub plain_stored : Session → List ℕ
plain_stored s = stored false (unheld s)

-- ---- laying a part of a session

-- bytes with x in place of the i-th of n parts of w bytes each, the first at byte `at`; as they were where there is none of that number
unfoldable pub lay_part : ℕ → ℕ → ℕ → List ℕ → ℕ → List ℕ → List ℕ
lay_part n at w b i x = elim (ltb i n) [ true ↦ lay b (at + w * i) x | false ↦ b ]

-- a state, but for its buffer
unfoldable pub front_stored : Bool → OpenFile → Holding → List ℕ
front_stored true f h = file_stored f ++ hold_stored h
front_stored false f h = file_stored f

-- another state of number k, whose buffer stays
abbrev pub lay_state : Bool → List ℕ → ℕ → OpenFile → Holding → List ℕ
lay_state u b k f h = lay_part most_open files_at (width u) b k (front_stored u f h)

-- and one with a fresh buffer
abbrev pub lay_fresh : Bool → List ℕ → ℕ → OpenFile → List ℕ
lay_fresh u b k f = lay_part most_open files_at (width u) b k (state_stored u (fresh f))

-- the directory of an image that is mounted; else a table with no used entry
unfoldable pub start_table : Bool → List ℕ → List Entry
start_table mounted image = elim (mounted && has_rows one_word_wide entries image) [ true ↦ table_of image | false ↦ replicate entries free_entry ]

-- "The session from a refused mounting says that it is one"
unfoldable pub start_saying : Bool → Saying
start_saying mounted = record { refused = not mounted }

-- a session that says so, with that table and nothing open, over bytes that are as many as one takes
unfoldable pub lay_start : List ℕ → Saying → List Entry → List ℕ
lay_start b says table =
    let u : Bool = has_buffers b in
    elim (eqb (length b) (size_of u)) [
      | true ↦ stored u (record { says = says; table = table; files = replicate most_open (fresh idle) })
      | false ↦ b
    ]
