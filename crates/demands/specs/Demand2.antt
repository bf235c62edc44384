-- Demand 2: "Each sequential file answers as a tape of records, each random file as a row of granules. What is written reads back. A lawful
-- write is refused exactly when there is no room or 65,535 records stand before it." As statements over an engine.
use Rattle.std.specs.Prelude.{◌≡◌, true, false, ◌||◌, List, [], ◌∷◌, ◌++◌, map, ℕ, ◌+◌, ◌≤◌, length, drop, replicate, leb}
use Rattle.geometry.specs.Bytes.{padded}
use Rattle.geometry.specs.Sizes.{entries, most_records}
use Rattle.directory.specs.Entries.{free_entry, entry_at, table_of}
use Rattle.requests.specs.Judge.{Test, not_legal, no_entry, not_open, not_sequential, is_protected, is_beyond, odd_count, bad_size, long_code, first_of, is_full}
use Rattle.sessions.specs.Session.{unheld}
use Rattle.mounting.specs.Mounting.{mounts, start_with, plain_mount}
use Rattle.tapes.specs.Tape.{Tape, pad_byte, tape_facts}
use Rattle.tapes.specs.Row.{Row}
use Rattle.tapes.specs.Model.{Model, nothing, tape, row, Asked, models_of, model_at, open_models}
use Rattle.tapes.specs.Runs.{Asking, of_file, model_reports}
use Rattle.demands.specs.Engine.{Engine, Standing, reports, run, heard, mounted, models_then, answered, are_bytes, in_bytes}
use Rattle.requests.specs.declared.Facts.{Facts}
use Rattle.requests.specs.declared.Order.TheVariants.{RewindOnline, RewindOffline, RecordForward}
use Rattle.requests.specs.declared.Request.TheVariants.{Read, Write, GranuleRead, GranuleWrite, Position}
use Rattle.requests.specs.declared.Refusal.TheVariants.{NoRoom}
use Rattle.requests.specs.declared.Answer.TheVariants.{Done, Refused}

pub record Faithful (E : Engine) : Type 0 where
  -- "Mounting refuses (11) exactly when the length is wrong or the directory is not good"
  pub mounting : (image : List ℕ) → (E.mount image).answer ≡ (plain_mount image).answer
  -- "A refused mounting hands out a table with no used entry and nothing open", and says that it is one
  pub refused_mounting : (image : List ℕ) → mounts image ≡ false → E.seen (E.mount image).session ≡ unheld (start_with true (replicate entries free_entry))
  -- answers, moved bytes and positions are those of the tapes and rows that the mounted image shows; a random file that is added shows what lies in its sectors then
  pub serves : (image : List ℕ) → mounts image ≡ true → (asked : List Asking) → in_bytes image asked ≡ true
      → reports E (mounted E image) asked ≡ model_reports (models_of image) (heard E (mounted E image) asked)

-- ---- what a caller asks to read record p of entry i back: rewind, skip p records, read

abbrev pub asking : ℕ → List ℕ → List ℕ → Asked
asking i given buffer = record { entry = i; request = Read; given = given; buffer = buffer }

abbrev pub writing : ℕ → List ℕ → Asked
writing i given = record { entry = i; request = Write; given = given; buffer = [] }

abbrev pub skipping : ℕ → ℕ → List Asked
skipping i p =
    record { entry = i; request = Position RewindOnline; given = []; buffer = [] }
    ∷ replicate p (record { entry = i; request = Position RecordForward; given = []; buffer = [] })

-- ---- and what is asked of granule g of entry i

abbrev pub granule_writing : ℕ → ℕ → List ℕ → Asked
granule_writing i g given = record { entry = i; request = GranuleWrite g; given = given; buffer = [] }

abbrev pub granule_reading : ℕ → ℕ → List ℕ → Asked
granule_reading i g buffer = record { entry = i; request = GranuleRead g; given = []; buffer = buffer }

-- from before a write of granule g to behind it: a read and a look of it give the bytes given, padded with zero, a read in the first R bytes of a buffer
-- that has as many or more; of any other granule they give the same
pub record GranuleBack (E : Engine) (before after : Standing E.Session) (i g R : ℕ) (given : List ℕ) : Type 0 where
  pub reads : (buffer : List ℕ) → R ≤ length buffer
      → ((answered E after (granule_reading i g buffer)).answer ≡ Done) × ((answered E after (granule_reading i g buffer)).buffer ≡ padded 0 R given ++ drop R buffer)
  pub shows : E.look after.image after.session i g ≡ padded 0 R given
  pub others : (h : ℕ) → ¬ (h ≡ g) → (buffer : List ℕ)
      → ((answered E after (granule_reading i h buffer)).answer ≡ (answered E before (granule_reading i h buffer)).answer)
      × ((answered E after (granule_reading i h buffer)).buffer ≡ (answered E before (granule_reading i h buffer)).buffer)
      × (E.look after.image after.session i h ≡ E.look before.image before.session i h)

-- "What is written reads back", "padded with zero, in compressed files with blanks": a write answered 0 where the tape of entry i stands
-- at p, then a rewinding, p skips and a read, with a buffer of R bytes or more; "A read answered 0 changes the first R bytes of the buffer only"
pub record ReadsBack (E : Engine) : Type 0 where
  pub back : (image : List ℕ) → mounts image ≡ true → (asked : List Asking) (i : ℕ) (t : Tape) → in_bytes image asked ≡ true
      → model_at (models_then E image asked) i ≡ tape t
      → (given buffer : List ℕ) → are_bytes given ≡ true → t.shape.record_length ≤ length buffer
      → (answered E (run E (mounted E image) asked) (writing i given)).answer ≡ Done
      → ((answered E (run E (mounted E image) (asked ++ map of_file (writing i given ∷ skipping i t.position))) (asking i [] buffer)).answer ≡ Done)
      × ((answered E (run E (mounted E image) (asked ++ map of_file (writing i given ∷ skipping i t.position))) (asking i [] buffer)).buffer
      ≡ padded (pad_byte t.shape.kind) t.shape.record_length given ++ drop t.shape.record_length buffer)
  -- and of a granule, where the row of entry i stands
  pub granule : (image : List ℕ) → mounts image ≡ true → (asked : List Asking) (i g : ℕ) (w : Row) → in_bytes image asked ≡ true
      → model_at (models_then E image asked) i ≡ row w
      → (given : List ℕ) → are_bytes given ≡ true
      → (answered E (run E (mounted E image) asked) (granule_writing i g given)).answer ≡ Done
      → GranuleBack E (run E (mounted E image) asked) (run E (mounted E image) (asked ++ (of_file (granule_writing i g given) ∷ []))) i g w.shape.record_length given

-- "A write is lawful when no check before 3 stops it."
abbrev pub checks_before3 : List (Test Facts)
checks_before3 = not_legal ∷ no_entry ∷ not_open ∷ not_sequential ∷ is_protected ∷ is_beyond ∷ odd_count ∷ bad_size ∷ long_code ∷ []

-- "A lawful write is refused exactly when there is no room or 65,535 records stand before it"
pub record RoomAlone (E : Engine) : Type 0 where
  pub refusing : (image : List ℕ) → mounts image ≡ true → (asked : List Asking) (i : ℕ) (t : Tape) (given : List ℕ) (f : Facts)
      → in_bytes image asked ≡ true → are_bytes given ≡ true
      → model_at (models_then E image asked) i ≡ tape t
      → f ≡ tape_facts (open_models (models_then E image asked)) given 0 t
      → first_of checks_before3 f ≡ Done
      → (((leb most_records t.position || is_full f) ≡ true → (answered E (run E (mounted E image) asked) (writing i given)).answer ≡ Refused NoRoom)
      × ((leb most_records t.position || is_full f) ≡ false → (answered E (run E (mounted E image) asked) (writing i given)).answer ≡ Done))

-- the count and the flags of a file: "flags: 1 marked, 2 write protected, 3 both"; "kind 4 has count 0 and is not marked"
unfoldable pub count_of : Model → ℕ
count_of nothing = 0
count_of (tape t) = length t.records
count_of (row w) = 0

unfoldable pub flags_of : Model → ℕ
flags_of nothing = 0
flags_of (tape t) = elim t.marked [ true ↦ 1 | false ↦ 0 ] + elim t.shape.protected [ true ↦ 2 | false ↦ 0 ]
flags_of (row w) = elim w.shape.protected [ true ↦ 2 | false ↦ 0 ]

-- the file is closed
abbrev pub closing : ℕ → Asked
closing i = record { entry = i; request = Position RewindOffline; given = []; buffer = [] }

-- "close, writing count and flags to bytes 16–19 of the entry": the count that a closing stores is the tape's own length, and the flags are its mark and
-- the file's protection
pub record CountsStored (E : Engine) : Type 0 where
  pub stored : (image : List ℕ) → mounts image ≡ true → (asked : List Asking) (i : ℕ) → in_bytes image asked ≡ true
      → (m : Model) → model_at (models_then E image asked) i ≡ m
      → (answered E (run E (mounted E image) asked) (closing i)).answer ≡ Done
      → ((entry_at (table_of (answered E (run E (mounted E image) asked) (closing i)).image) i).count ≡ count_of m)
      × ((entry_at (table_of (answered E (run E (mounted E image) asked) (closing i)).image) i).flags ≡ flags_of m)
