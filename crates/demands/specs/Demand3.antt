-- Demand 3: "Two engines, one with a blocking buffer for each open file and one with none, give the same answers, bytes and positions for any
-- requests from the same mounted image; with no file open the images are equal, and every byte outside the entries and extents of opened
-- files is as mounted." Document 02, item 1: "From then on demand 3's list of files opened reads opened, added or deleted". Item 3: "A write then changes only its own
-- R bytes", so the bytes at a sector's end behind its granules are as mounted too. As statements over engines.
use Rattle.std.specs.Prelude.{◌≡◌, Bool, true, ◌&&◌, ◌||◌, not, List, ℕ, ◌+◌, ◌*◌, ◌%◌, length, get_or, leb, ltb}
use Rattle.geometry.specs.Bytes.{part}
use Rattle.geometry.specs.Lists.{every}
use Rattle.geometry.specs.Sizes.{sector, entry_size}
use Rattle.directory.specs.Entries.{entry_at}
use Rattle.sessions.specs.Session.{has_buffer, extent}
use Rattle.mounting.specs.Mounting.{mounts}
use Rattle.steps.specs.Step.{held_of}
use Rattle.tapes.specs.Model.{models_of, nothing_open}
use Rattle.tapes.specs.Runs.{Asking, Site, touched}
use Rattle.demands.specs.Engine.{Engine, reports, run, heard, mounted, models_then, in_bytes}
use Rattle.demands.specs.Demand2.{Faithful}
use Rattle.directory.specs.declared.Entry.{Entry}
use Rattle.sessions.specs.declared.BufferedFile.{BufferedFile}

-- byte j lies in a file's entry or in its extent, as they were when it was opened, added or deleted; and not among the 360 − q·R bytes at a sector's end that
-- belong to no granule
unfoldable pub belongs : ℕ → Site → Bool
belongs j t =
    (leb (entry_size * t.entry) j && ltb j (entry_size * t.entry + entry_size))
    || ((leb (sector * t.first) j && ltb j (sector * (t.first + t.sectors))) && ltb (j % sector) t.reach)

-- byte j lies "outside the entries and extents of" files "opened, added or deleted"
abbrev pub Outside : (E : Engine) → List ℕ → List Asking → ℕ → Type 0
Outside E image asked j = every (λ t. not (belongs j t)) (touched (models_of image) (heard E (mounted E image) asked)) ≡ true

-- there are as many bytes, and every byte outside those is "as mounted"
abbrev pub Untouched : (E : Engine) → List ℕ → List Asking → Type 0
Untouched E image asked =
    (length (run E (mounted E image) asked).image ≡ length image)
    × ((j : ℕ) → Outside E image asked j → get_or (run E (mounted E image) asked).image j 0 ≡ get_or image j 0)

pub record Agreeing (E F : Engine) (image : List ℕ) (asked : List Asking) : Type 0 where
  -- "the same answers, bytes and positions"
  pub alike : reports E (mounted E image) asked ≡ reports F (mounted F image) asked
  -- and the same tapes and rows: what lies in the sectors that a file is added in is the same in both
  pub same : models_then E image asked ≡ models_then F image asked
  pub untouched : Untouched E image asked × Untouched F image asked
  -- "with no file open the images are equal"; "whenever no file is open, mounting the image afresh gives the same tapes, marks and granules"
  pub when_idle : nothing_open (models_then E image asked) ≡ true
      → ((run E (mounted E image) asked).image ≡ (run F (mounted F image) asked).image)
      × (mounts (run E (mounted E image) asked).image ≡ true)
      × (models_of (run E (mounted E image) asked).image ≡ models_then E image asked)
  -- what the buffer of a blocked or compressed file has are the bytes of the held sector, as the engine with none has them in its image
  pub held : (i : ℕ) (e : Entry) (b : BufferedFile) → entry_at (F.seen (run F (mounted F image) asked).session).table i ≡ e → has_buffer e ≡ true
      → held_of (F.seen (run F (mounted F image) asked).session) i ≡ b → b.holds ≡ true
      → b.buffer ≡ part (extent e (run E (mounted E image) asked).image) (sector * b.held) sector

-- "Demand 3's agreement is stated over the tape and granule definitions, since two equal idle engines also agree"
pub record Agree (E F : Engine) : Type 0 where
  pub first : Faithful E
  pub second : Faithful F
  pub agreeing : (image : List ℕ) → mounts image ≡ true → (asked : List Asking) → in_bytes image asked ≡ true → Agreeing E F image asked
