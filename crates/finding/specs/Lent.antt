-- What a request asks of a session in lent bytes. Definitions only.
use Rattle.std.specs.Prelude.{Bool, true, false, ◌&&◌, List, [], ℕ, ◌+◌, ◌*◌, ltb, get_or}
use Rattle.geometry.specs.Bytes.{part}
use Rattle.geometry.specs.Sizes.{sector, most_open}
use Rattle.directory.specs.Entries.{entry_at}
use Rattle.sessions.specs.Session.{idle, fresh, bare, file_of, slot_of, open_files, buffered_legal}
use Rattle.sessions.specs.declared.BufferedFile.{BufferedFile}
use Rattle.sessions.specs.declared.BufferedSession.{BufferedSession}
use Rattle.sessions.specs.declared.OpenFile.{OpenFile}
use Rattle.storing.specs.Stored.{held_width, files_at, hold_of, lent_session}
use Rattle.finding.specs.declared.Seen.{Seen}

-- a state; the idle one where it is not in use
unfoldable pub if_used : OpenFile → OpenFile
if_used f = elim f.used [ true ↦ f | false ↦ idle ]

-- a state with its buffer; a fresh one where that is not in use
unfoldable pub in_use : BufferedFile → BufferedFile
in_use b = elim b.file.used [ true ↦ b | false ↦ fresh idle ]

-- the one of number k
unfoldable pub state_at : List BufferedFile → ℕ → BufferedFile
state_at files k = in_use (get_or files k (fresh idle))

-- the held sector, if there is one
unfoldable pub lent_by : BufferedFile → List ℕ
lent_by b = elim b.holds [ true ↦ b.buffer | false ↦ [] ]

-- where the buffer of state k begins in the bytes of a session
abbrev pub buffer_at : ℕ → ℕ
buffer_at k = files_at + held_width * k + 36

-- where the held sector lies there, if state k holds one
unfoldable pub lent_in : List ℕ → ℕ → Bool → List ℕ
lent_in b k holds = elim (holds && ltb k most_open) [ true ↦ part b (buffer_at k) sector | false ↦ [] ]

-- entry i's state with its buffer
abbrev pub own_state : BufferedSession → ℕ → BufferedFile
own_state s i = state_at s.files (slot_of (bare s).files i)

-- whether the session is legal, how many files are open, which state is the entry's or is to be, the entry, its file, and what that holds
unfoldable pub seen_of : List ℕ → BufferedSession → ℕ → Seen
seen_of image s i = record {
  lawful = buffered_legal image s;
  opened = open_files (bare s).files;
  slot = slot_of (bare s).files i;
  entry = entry_at s.table i;
  file = file_of (bare s).files i;
  hold = hold_of (own_state s i);
}

abbrev pub seen_in : List ℕ → List ℕ → ℕ → Seen
seen_in image b i = seen_of image (lent_session b) i
