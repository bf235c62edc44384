-- What a request answered 0 does to bytes, and how each engine does that: the plain one straight in the image, the buffered one through
-- the file's blocking buffer. Document 01, "Where a record lies" and "The tape a file is". Definitions only.
use Rattle.std.specs.Prelude.{Bool, true, false, ◌&&◌, List, [], ◌∷◌, map, ℕ, ◌+◌, ◌-◌, ◌*◌, eqb, ltb}
use Rattle.geometry.specs.Bytes.{part, lay, padded}
use Rattle.geometry.specs.Places.{place_of, bytes_for}
use Rattle.geometry.specs.Sizes.{sector, entry_size, compressed, blocked}
use Rattle.coding.specs.Encode.{code_of}
use Rattle.directory.specs.Entries.{is_kind}
use Rattle.directory.specs.Stamp.{stamp_bytes}
use Rattle.packing.specs.Placing.{Change, changes}
use Rattle.packing.specs.Reading.{start_of, goes_on}
use Rattle.sessions.specs.Session.{has_buffer}
use Rattle.steps.specs.Next.{Scene}
use Rattle.geometry.specs.declared.Place.{Place}
use Rattle.directory.specs.declared.Entry.{Entry}
use Rattle.requests.specs.declared.Order.TheVariants.{WriteMark, RewindOnline, RewindOffline, RecordForward, RecordBack, FileForward, FileBack}
use Rattle.requests.specs.declared.Request.{Request}
use Rattle.requests.specs.declared.Request.TheVariants.{Open, Read, Write, GranuleRead, GranuleWrite, GranuleLook, Position}
use Rattle.sessions.specs.declared.BufferedFile.{BufferedFile}

-- ---- effects on the image

pub data Effect : Type 0 where
  hold : ℕ → Effect  -- by way of the buffer: this sector of the extent is read
  change : Change → Effect  -- by way of the buffer: bytes of one sector change
  store : Change → Effect  -- straight: bytes of the extent, from a place on
  stamp : List ℕ → Effect  -- straight: bytes 16-19 of the entry
  put_back : Effect  -- the buffer goes back

-- a read "takes each sector that it must read": the blocked record's; a compressed record's, and before it the one whose 128 says go on
unfoldable pub read_effects : Scene → List Effect
read_effects c =
    let h : Place = c.file.here in
    let k : ℕ = (start_of c.bytes h).sector in
    elim (is_kind blocked c.entry) [
      | true ↦ hold (place_of blocked c.entry.length c.file.position).sector ∷ []
      | false ↦ elim (is_kind compressed c.entry) [
        | true ↦ elim (goes_on c.bytes h && ltb h.byte sector) [ true ↦ hold h.sector ∷ hold k ∷ [] | false ↦ hold k ∷ [] ]
        | false ↦ []
      ]
    ]

-- "Bytes behind R in its last sector are written as zero"; of a granule that shares its sector, item 3: "A write then changes only its own R bytes, padding
-- included"
unfoldable pub store_effect : Scene → ℕ → Effect
store_effect c k = store (record { place = place_of c.entry.kind c.entry.length k; bytes = padded 0 (bytes_for c.entry.kind c.entry.length) c.given })

-- "A write puts zero in every byte of the sector behind the record"
unfoldable pub blocked_effect : Scene → Effect
blocked_effect c =
    let p : Place = place_of blocked c.entry.length c.file.position in
    change (record { place = p; bytes = padded 0 (sector - p.byte) c.given })

unfoldable pub write_effects : Scene → List Effect
write_effects c = elim (is_kind blocked c.entry) [
  | true ↦ blocked_effect c ∷ []
  | false ↦ elim (is_kind compressed c.entry) [
    | true ↦ map change (changes c.file.here (code_of c.entry.length c.given))
    | false ↦ store_effect c c.file.position ∷ []
  ]
]

-- the buffer is "put back .. before any order but the record skips, and at close"; close: "writing count and flags to bytes 16–19 of the entry"
unfoldable pub effects : Request → Scene → List Effect
effects Open c = []
effects Read c = read_effects c
effects Write c = write_effects c
effects (GranuleRead g) c = []
effects (GranuleWrite g) c = store_effect c g ∷ []
effects (GranuleLook g) c = []
effects (Position WriteMark) c = put_back ∷ []
effects (Position RewindOnline) c = put_back ∷ []
effects (Position RewindOffline) c = put_back ∷ stamp (stamp_bytes c.entry.count c.entry.flags) ∷ []
effects (Position RecordForward) c = []
effects (Position RecordBack) c = []
effects (Position FileForward) c = put_back ∷ []
effects (Position FileBack) c = put_back ∷ []

-- a sector of the extent laid in the image
abbrev pub sector_at : Entry → ℕ → ℕ
sector_at e k = sector * (e.first + k)

-- bytes laid in the image, at a place of the extent
abbrev pub laid_in : Entry → Change → List ℕ → List ℕ
laid_in e x image = lay image (sector_at e x.place.sector + x.place.byte) x.bytes

-- straight in the image
unfoldable pub plain_do : Scene → Effect → List ℕ → List ℕ
plain_do c (hold k) image = image
plain_do c (change x) image = laid_in c.entry x image
plain_do c (store x) image = laid_in c.entry x image
plain_do c (stamp xs) image = lay image (entry_size * c.number + 16) xs
plain_do c put_back image = image

unfoldable pub plain_all : Scene → List Effect → List ℕ → List ℕ
plain_all c [] image = image
plain_all c (x ∷ xs) image = plain_all c xs (plain_do c x image)

-- the image and one file's buffer
pub record Bench : Type 0 where
  pub image : List ℕ
  pub file : BufferedFile

abbrev pub holding : BufferedFile → ℕ → Bool → List ℕ → BufferedFile
holding b k c xs = record { file = b.file; holds = true; held = k; changed = c; buffer = xs }

-- a changed buffer is laid over its sector, and is then not changed
unfoldable pub putting_back : Entry → Bench → Bench
putting_back e w = elim (w.file.holds && w.file.changed) [
  | true ↦ record { image = lay w.image (sector_at e w.file.held) w.file.buffer; file = holding w.file w.file.held false w.file.buffer }
  | false ↦ w
]

-- sector k of the image in the buffer
unfoldable pub loaded : Entry → ℕ → Bench → Bench
loaded e k w = record { image = w.image; file = holding w.file k false (part w.image (sector_at e k) sector) }

-- "put back before another sector takes it"; "it takes each sector .. unless held already"
unfoldable pub taking : Entry → ℕ → Bench → Bench
taking e k w = elim (w.file.holds && eqb w.file.held k) [ true ↦ w | false ↦ loaded e k (putting_back e w) ]

-- bytes laid in the buffer
unfoldable pub working : ℕ → List ℕ → Bench → Bench
working at xs w = record { image = w.image; file = holding w.file w.file.held true (lay w.file.buffer at xs) }

-- by way of the buffer; a file that has none puts nothing back
unfoldable pub buffered_do : Scene → Effect → Bench → Bench
buffered_do c (hold k) w = taking c.entry k w
buffered_do c (change x) w = working x.place.byte x.bytes (taking c.entry x.place.sector w)
buffered_do c (store x) w = record { image = plain_do c (store x) w.image; file = w.file }
buffered_do c (stamp xs) w = record { image = plain_do c (stamp xs) w.image; file = w.file }
buffered_do c put_back w = elim (has_buffer c.entry) [ true ↦ putting_back c.entry w | false ↦ w ]

unfoldable pub buffered_all : Scene → List Effect → Bench → Bench
buffered_all c [] w = w
buffered_all c (x ∷ xs) w = buffered_all c xs (buffered_do c x w)
