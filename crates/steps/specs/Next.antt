-- What a request finds, what it is judged by, and the next state of its file. Document 01, "The tape a file is". Definitions only.
use Rattle.std.specs.Prelude.{Bool, true, false, ◌&&◌, not, List, [], ℕ, ◌+◌, ◌-◌, ◌*◌, ◌/◌, length, leb, ltb}
use Rattle.geometry.specs.Bytes.{part}
use Rattle.geometry.specs.Places.{place_of, byte_of, origin}
use Rattle.geometry.specs.Sizes.{compressed}
use Rattle.coding.specs.Encode.{code_of}
use Rattle.directory.specs.Entries.{is_kind, is_marked, is_protected}
use Rattle.packing.specs.Placing.{behind_new}
use Rattle.packing.specs.Reading.{Got, lost, got, read_behind, records_of, decodes, behind}
use Rattle.sessions.specs.Session.{idle, legal}
use Rattle.mounting.specs.Mounting.{counted_walk}
use Rattle.geometry.specs.declared.Place.{Place}
use Rattle.directory.specs.declared.Entry.{Entry}
use Rattle.requests.specs.declared.Edge.{Edge}
use Rattle.requests.specs.declared.Edge.TheVariants.{EndOfFile, BeginningOfTape}
use Rattle.requests.specs.declared.Facts.{Facts}
use Rattle.requests.specs.declared.Order.TheVariants.{WriteMark, RewindOnline, RewindOffline, RecordForward, RecordBack, FileForward, FileBack}
use Rattle.requests.specs.declared.Request.{Request}
use Rattle.requests.specs.declared.Request.TheVariants.{Open, Read, Write, GranuleRead, GranuleWrite, GranuleLook, Position}
use Rattle.sessions.specs.declared.OpenFile.{OpenFile}

-- ---- what a request finds: the entry's number, the entry, its open-file state (idle if not open), its extent's bytes, the bytes given

pub record Scene : Type 0 where
  pub number : ℕ
  pub entry : Entry
  pub file : OpenFile
  pub bytes : List ℕ
  pub given : List ℕ

-- record k or granule k of a file that is not compressed
unfoldable pub fixed_at : Scene → ℕ → List ℕ
fixed_at c k = part c.bytes (byte_of (place_of c.entry.kind c.entry.length k)) c.entry.length

-- the record at the position; the place stays as it is but for a compressed file
unfoldable pub record_here : Scene → Got
record_here c = elim (is_kind compressed c.entry) [
  | true ↦ read_behind c.entry.length c.entry.sectors c.bytes c.file.here
  | false ↦ got (record { bytes = fixed_at c c.file.position; behind = c.file.here })
]

unfoldable pub is_lost : Got → Bool
is_lost (got r) = false
is_lost (lost p) = true

unfoldable pub bytes_got : Got → List ℕ
bytes_got (got r) = r.bytes
bytes_got (lost p) = []

unfoldable pub behind_got : Got → Place
behind_got (got r) = r.behind
behind_got (lost p) = origin

-- what a request decodes
pub data Decoding : Type 0 where
  the_counted the_next none : Decoding

-- an opening "first decodes the count records"; a read, and record forward, the record at the position
unfoldable pub decoding : Request → Decoding
decoding Open = the_counted
decoding Read = the_next
decoding Write = none
decoding (GranuleRead g) = none
decoding (GranuleWrite g) = none
decoding (GranuleLook g) = none
decoding (Position WriteMark) = none
decoding (Position RewindOnline) = none
decoding (Position RewindOffline) = none
decoding (Position RecordForward) = the_next
decoding (Position RecordBack) = none
decoding (Position FileForward) = none
decoding (Position FileBack) = none

-- "gives 11 if one is bad": one of the count records; the record at the position, if there is one
unfoldable pub bad_in : Decoding → Scene → Bool
bad_in the_counted c = is_kind compressed c.entry && not (decodes (counted_walk c.entry c.bytes))
bad_in the_next c = ltb c.file.position c.entry.count && is_lost (record_here c)
bad_in none c = false

-- the length of the code of the bytes given, where they may be a record of a compressed file
unfoldable pub code_length : Entry → List ℕ → ℕ
code_length e given = elim (is_kind compressed e && leb (length given) e.length) [ true ↦ length (code_of e.length given) | false ↦ 0 ]

-- what the tests of a request ask about, of an entry and its file's state: `bad` says whether a code that it decodes is bad; `files` are open; `given` is
-- how many bytes the caller gives, `code` the length of their code, and `buffer` the size of the buffer that the caller lends
abbrev pub facts_but : Bool → Bool → ℕ → Entry → OpenFile → ℕ → ℕ → ℕ → Facts
facts_but bad legal files e f given code buffer = record {
  legal = legal;
  files = files;
  kind = e.kind;
  length = e.length;
  sectors = e.sectors;
  protected = is_protected e;
  opened = f.used;
  position = f.position;
  count = e.count;
  marked = is_marked e;
  beyond = f.beyond;
  here = f.here;
  bad = bad;
  given = given;
  code = code;
  buffer = buffer;
}

abbrev pub facts_with : Bool → ℕ → ℕ → ℕ → Request → Scene → Facts
facts_with legal files buffer code q c = facts_but (bad_in (decoding q) c) legal files c.entry c.file (length c.given) code buffer

unfoldable pub facts_of : Bool → ℕ → ℕ → Request → Scene → Facts
facts_of legal files buffer q c = facts_with legal files buffer (code_length c.entry c.given) q c

-- ---- the next state of the file

-- the file at another position and place
abbrev pub moved : OpenFile → ℕ → Bool → Place → Place → OpenFile
moved f p b h e = record { used = true; entry = f.entry; position = p; beyond = b; here = h; end = e }

-- the place behind the record that is written; it stays as it is but for a compressed file
unfoldable pub behind_written : Scene → Place
behind_written c = elim (is_kind compressed c.entry) [
  | true ↦ behind_new c.file.here (length (code_of c.entry.length c.given))
  | false ↦ c.file.here
]

-- "it first decodes the count records to find the end place"
unfoldable pub end_place : Scene → Place
end_place c = elim (is_kind compressed c.entry) [ true ↦ behind (records_of (counted_walk c.entry c.bytes)) c.entry.count | false ↦ origin ]

-- answer 0
unfoldable pub file_done : Request → Scene → OpenFile
file_done Open c = record { used = true; entry = c.number; position = 0; beyond = false; here = origin; end = end_place c }
file_done Read c = moved c.file (c.file.position + 1) false (behind_got (record_here c)) c.file.end
file_done Write c = moved c.file (c.file.position + 1) false (behind_written c) (behind_written c)
file_done (GranuleRead g) c = c.file
file_done (GranuleWrite g) c = c.file
file_done (GranuleLook g) c = c.file
file_done (Position WriteMark) c = moved c.file c.file.position true c.file.here c.file.here
file_done (Position RewindOnline) c = moved c.file 0 false origin c.file.end
file_done (Position RewindOffline) c = idle
file_done (Position RecordForward) c = moved c.file (c.file.position + 1) false (behind_got (record_here c)) c.file.end
file_done (Position RecordBack) c = moved c.file (c.file.position - 1) false c.file.here c.file.end
file_done (Position FileForward) c = moved c.file c.entry.count true c.file.end c.file.end
file_done (Position FileBack) c = moved c.file c.file.position false c.file.here c.file.end

-- answer 1 crosses the mark, answer 2 stands at the start
unfoldable pub file_met : Edge → OpenFile → OpenFile
file_met EndOfFile f = moved f f.position (not f.beyond) f.here f.end
file_met BeginningOfTape f = moved f 0 false origin f.end

-- an entry with another count and mark
unfoldable pub counted : Entry → ℕ → ℕ → Entry
counted e n marked = record {
  name = e.name;
  kind = e.kind;
  length = e.length;
  first = e.first;
  sectors = e.sectors;
  count = n;
  flags = 2 * (e.flags / 2) + marked;
}

-- a write: D is p + 1 records, unmarked; a write file mark: p records, marked
unfoldable pub entry_done : Request → Scene → Entry
entry_done Open c = c.entry
entry_done Read c = c.entry
entry_done Write c = counted c.entry (c.file.position + 1) 0
entry_done (GranuleRead g) c = c.entry
entry_done (GranuleWrite g) c = c.entry
entry_done (GranuleLook g) c = c.entry
entry_done (Position WriteMark) c = counted c.entry c.file.position 1
entry_done (Position RewindOnline) c = c.entry
entry_done (Position RewindOffline) c = c.entry
entry_done (Position RecordForward) c = c.entry
entry_done (Position RecordBack) c = c.entry
entry_done (Position FileForward) c = c.entry
entry_done (Position FileBack) c = c.entry

-- ---- bytes into the caller's buffer: the record, the granule

unfoldable pub into_buffer : Request → Scene → List ℕ
into_buffer Open c = []
into_buffer Read c = bytes_got (record_here c)
into_buffer Write c = []
into_buffer (GranuleRead g) c = fixed_at c g
into_buffer (GranuleWrite g) c = []
into_buffer (GranuleLook g) c = []
into_buffer (Position o) c = []
