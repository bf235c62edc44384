-- Document 01, "Answer numbers", last paragraph, and document 02, item 1: sessions, and when one is legal for an image. Definitions only.
use Rattle.std.specs.Prelude.{Bool, true, false, ◌&&◌, ◌||◌, not, List, [], ◌∷◌, map, ℕ, ◌*◌, length, get_or, replicate, eqb, leb, ltb, Option, Some, None}
use Rattle.geometry.specs.Bytes.{part, lay}
use Rattle.geometry.specs.Lists.{all, every, pairwise, first_with, how_many}
use Rattle.geometry.specs.Places.{origin}
use Rattle.geometry.specs.Sizes.{sector, entries, blocked, compressed, most_open, sectors_of, lawful_length}
use Rattle.directory.specs.Entries.{entry_at, is_free, is_kind, is_marked}
use Rattle.directory.specs.Rules.{table_good}
use Rattle.geometry.specs.declared.Place.{Place}
use Rattle.directory.specs.declared.Entry.{Entry}
use Rattle.sessions.specs.declared.BufferedFile.{BufferedFile}
use Rattle.sessions.specs.declared.BufferedSession.{BufferedSession}
use Rattle.sessions.specs.declared.OpenFile.{OpenFile}
use Rattle.sessions.specs.declared.Session.{Session}
use Rattle.sessions.specs.declared.Spot.{Spot}

-- a state that is not in use
abbrev pub idle : OpenFile
idle = record { used = false; entry = 0; position = 0; beyond = false; here = origin; end = origin }

-- "Fresh buffer as [0; 360]": an open file that holds nothing yet
abbrev pub fresh : OpenFile → BufferedFile
fresh f = record { file = f; holds = false; held = 0; changed = false; buffer = replicate sector 0 }

-- the session without its buffers
unfoldable pub bare : BufferedSession → Session
bare s = record { says = s.says; table = s.table; files = map (λ f. f.file) s.files }

-- a plain session as a buffered one: nothing held
unfoldable pub unheld : Session → BufferedSession
unheld s = record { says = s.says; table = s.table; files = map fresh s.files }

-- ---- finding a file

-- whether a state is entry i's
unfoldable pub is_of : ℕ → OpenFile → Bool
is_of i f = f.used && eqb f.entry i

-- entry i's state; idle if it is not open
unfoldable pub file_of : List OpenFile → ℕ → OpenFile
file_of files i = get_or files (first_with (is_of i) files) idle

-- which state is entry i's: the one it has, else the first that is not in use
unfoldable pub slot_of : List OpenFile → ℕ → ℕ
slot_of files i =
    let k : ℕ = first_with (is_of i) files in
    elim (ltb k (length files)) [ true ↦ k | false ↦ first_with (λ f. not f.used) files ]

unfoldable pub open_files : List OpenFile → ℕ
open_files files = how_many (λ f. f.used) files

-- that an open file stands at a record, or beyond the mark
abbrev pub at : ℕ → Bool → Option Spot
at p y = Some (record { «record» = p; beyond = y })

-- where a file stands, if it is open
unfoldable pub stand : OpenFile → Option Spot
stand f = elim f.used [ true ↦ at f.position f.beyond | false ↦ None ]

-- where entry i's file stands
unfoldable pub spot_of : Session → ℕ → Option Spot
spot_of s i = stand (file_of s.files i)

-- ---- a file's bytes

-- its extent, as the image has it
unfoldable pub extent : Entry → List ℕ → List ℕ
extent e image = part image (sector * e.first) (sector * e.sectors)

-- "The buffered engine gives each open blocked or compressed file a blocking buffer"
abbrev pub has_buffer : Entry → Bool
has_buffer e = is_kind blocked e || is_kind compressed e

-- whether a file holds a sector in its buffer; whatever the state of a file that has none says, nothing is read from it or put back
unfoldable pub holds_one : Entry → BufferedFile → Bool
holds_one e b = b.holds && has_buffer e

-- and as the file has it: the held sector in place of the image's
unfoldable pub extent_with : Entry → BufferedFile → List ℕ → List ℕ
extent_with e b image = elim (holds_one e b) [ true ↦ lay (extent e image) (sector * b.held) b.buffer | false ↦ extent e image ]

-- ---- "A session is legal exactly if":

-- "each a .. used entry"
unfoldable pub of_used_entry : List Entry → OpenFile → Bool
of_used_entry table f = not f.used || (ltb f.entry entries && not (is_free (entry_at table f.entry)))

-- "each a different .. entry"
unfoldable pub of_other : OpenFile → OpenFile → Bool
of_other f g = not (f.used && is_of f.entry g)

-- "each open p is at most the count"
unfoldable pub position_good : List Entry → OpenFile → Bool
position_good table f = not f.used || leb f.position (entry_at table f.entry).count

-- "beyond occurs only as above": "possible only if marked with p at the end"
unfoldable pub beyond_good : List Entry → OpenFile → Bool
beyond_good table f =
    let e : Entry = entry_at table f.entry in
    not (f.used && f.beyond) || (is_marked e && eqb f.position e.count)

-- "in the extent at byte 0 to 360"
unfoldable pub place_good : Entry → Place → Bool
place_good e p = ltb p.sector e.sectors && leb p.byte sector

-- "compressed places (current and end) lie" so
unfoldable pub places_good : List Entry → OpenFile → Bool
places_good table f =
    let e : Entry = entry_at table f.entry in
    not (f.used && is_kind compressed e) || (place_good e f.here && place_good e f.end)

-- "a held sector lies in its file's extent"
unfoldable pub held_good : List Entry → BufferedFile → Bool
held_good table b = not (b.file.used && b.holds) || ltb b.held (entry_at table b.file.entry).sectors

-- document 02, item 1: "The session from a refused mounting says that it is one, and if it says so with a used entry or an open file it falls under 12"
unfoldable pub saying_good : Session → Bool
saying_good s = not s.says.refused || (every is_free s.table && eqb (open_files s.files) 0)

unfoldable pub session_rules : List ℕ → Session → List Bool
session_rules image s =
    lawful_length image
    ∷ table_good (sectors_of image) s.table
    ∷ leb (open_files s.files) most_open
    ∷ every (of_used_entry s.table) s.files
    ∷ pairwise of_other s.files
    ∷ every (position_good s.table) s.files
    ∷ every (beyond_good s.table) s.files
    ∷ every (places_good s.table) s.files
    ∷ saying_good s
    ∷ []

unfoldable pub legal : List ℕ → Session → Bool
legal image s = all (session_rules image s)

unfoldable pub buffered_legal : List ℕ → BufferedSession → Bool
buffered_legal image s = legal image (bare s) && every (held_good s.table) s.files

-- what the types of src/ say of every session: 18 entries with names of 8 bytes, four open-file states, buffers of 360 bytes
unfoldable pub typed : BufferedSession → Bool
typed s =
    eqb (length s.table) entries
    && (every (λ e. eqb (length e.name) 8) s.table
    && (eqb (length s.files) most_open
    && every (λ b. eqb (length b.buffer) sector) s.files))
