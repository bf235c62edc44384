-- How a request is judged with decoding only in its turn: what it is judged by at first, and where its decoding leads. proofs/Turns.antt shows that this,
-- and the next entry and state that `following` makes by that place, come to `verdict_of`. Definitions only.
use Rattle.std.specs.Prelude.{Bool, true, false, ◌≡◌, List, [], ℕ, ◌+◌, ◌*◌, ◌≤◌, ◌<◌, ◌^◌, length, ltb, Result, Ok, Err}
use Rattle.geometry.specs.Bytes.{part, lay}
use Rattle.geometry.specs.Places.{capacity, place_of, byte_of, origin}
use Rattle.geometry.specs.Sizes.{sector, blocked, compressed, random, most_sectors}
use Rattle.directory.specs.Entries.{is_free, is_kind}
use Rattle.packing.specs.Placing.{behind_new}
use Rattle.packing.specs.Reading.{overlaid, Got, got, lost, walked_to, led_to}
use Rattle.mounting.specs.Mounting.{counted_walk}
use Rattle.steps.specs.Next.{Scene, record_here, fixed_at}
use Rattle.steps.proofs.Lawful.{Lawful}
use Rattle.geometry.specs.declared.Place.{Place}
use Rattle.directory.specs.declared.Entry.{Entry}
use Rattle.packing.specs.declared.BadPlace.{BadPlace}
use Rattle.steps.specs.Verdict.{buffer_next, answer_of, verdict_of}
use Rattle.following.specs.Following.{verdict_from}
use Rattle.requests.specs.declared.Answer.{Answer}
use Rattle.requests.specs.declared.Request.{Request}
use Rattle.requests.specs.declared.Request.TheVariants.{Open, Read, Write, GranuleRead, GranuleWrite, GranuleLook, Position}
use Rattle.sessions.specs.declared.OpenFile.{OpenFile}

-- ---- decoding, and copying, in its turn

-- what a request finds
abbrev pub scene_of : ℕ → Entry → OpenFile → List ℕ → List ℕ → Scene
scene_of i e f bytes given = record { number = i; entry = e; file = f; bytes = bytes; given = given }

-- its file and the file's bytes alone
abbrev pub sight : Entry → OpenFile → List ℕ → Scene
sight e f bytes = scene_of 0 e f bytes []

-- record or granule k of a file that is not compressed, in the bytes of its extent
unfoldable pub record_in : Entry → ℕ → List ℕ → List ℕ
record_in e k bytes = part bytes (byte_of (place_of e.kind e.length k)) e.length

-- such a file's bytes, with a blocked one's held sector
unfoldable pub blocked_bytes : Entry → List ℕ → ℕ → List ℕ → List ℕ
blocked_bytes e bytes held over = elim (is_kind blocked e) [ true ↦ overlaid bytes held over | false ↦ bytes ]

-- there is such a record, in so many bytes
pub record Fixed (e : Entry) (k n : ℕ) : Type 0 where
  pub some : 0 < e.length
  pub short : e.kind ≡ blocked → e.length ≤ sector
  pub there : k < capacity e.kind e.length e.sectors
  pub few : e.sectors ≤ most_sectors
  pub whole : n ≡ sector * e.sectors

-- an open file of a legal session, and its extent of so many bytes
pub record Ready (e : Entry) (f : OpenFile) (n : ℕ) : Type 0 where
  pub lawful : Lawful e f
  pub opened : f.used ≡ true
  pub whole : n ≡ sector * e.sectors

-- a used entry of a legal session and its state are lawful, and its extent lies in the image
abbrev pub Stands : List ℕ → Bool → Entry → OpenFile → Type 0
Stands image legal e f = legal ≡ true → is_free e ≡ false → (Lawful e f) × (sector * (e.first + e.sectors) ≤ length image)

-- the place behind the records counted
unfoldable pub end_led : Entry → List ℕ → Result Place BadPlace
end_led e bytes = elim (is_kind compressed e) [ true ↦ walked_to origin (counted_walk e bytes) | false ↦ Ok origin ]

-- the place behind the record at the position, if there is one
unfoldable pub here_led : Entry → OpenFile → List ℕ → Result Place BadPlace
here_led e f bytes = elim (ltb f.position e.count) [ true ↦ led_to (record_here (sight e f bytes)) | false ↦ Ok f.here ]

-- a record laid over the first bytes of a buffer; a bad code leaves it as it was
unfoldable pub laid_first : Got → List ℕ → List ℕ
laid_first (got r) old = lay old 0 r.bytes
laid_first (lost p) old = old

unfoldable pub here_into : Entry → OpenFile → List ℕ → List ℕ → List ℕ
here_into e f bytes old = elim (ltb f.position e.count) [ true ↦ laid_first (record_here (sight e f bytes)) old | false ↦ old ]

-- what a request decodes, where its turn has come
unfoldable pub turn_led : Request → Entry → OpenFile → List ℕ → Result Place BadPlace
turn_led Open e f bytes = end_led e bytes
turn_led Read e f bytes = here_led e f bytes
turn_led Write e f bytes = Ok origin
turn_led (GranuleRead g) e f bytes = Ok origin
turn_led (GranuleWrite g) e f bytes = Ok origin
turn_led (GranuleLook g) e f bytes = Ok origin
turn_led (Position o) e f bytes = here_led e f bytes

-- and what is then in the buffer
unfoldable pub turn_into : Request → Entry → OpenFile → List ℕ → List ℕ → List ℕ
turn_into Open e f bytes old = old
turn_into Read e f bytes old = here_into e f bytes old
turn_into Write e f bytes old = old
turn_into (GranuleRead g) e f bytes old = old
turn_into (GranuleWrite g) e f bytes old = old
turn_into (GranuleLook g) e f bytes old = old
turn_into (Position o) e f bytes old = old

-- what it may count on then; the extent has n bytes, the buffer m
abbrev pub TurnOf : Request → Entry → OpenFile → ℕ → ℕ → Type 0
TurnOf Open e f n m = f.used ≡ false
TurnOf Read e f n m = (Ready e f n) × (is_kind random e ≡ false) × (e.length ≤ m)
TurnOf Write e f n m = Unit {0}
TurnOf (GranuleRead g) e f n m = Unit {0}
TurnOf (GranuleWrite g) e f n m = Unit {0}
TurnOf (GranuleLook g) e f n m = Unit {0}
TurnOf (Position o) e f n m = f.used ≡ true

unfoldable pub is_astray : Result Place BadPlace → Bool
is_astray (Ok p) = false
is_astray (Err b) = true

unfoldable pub place_in : Result Place BadPlace → Place
place_in (Ok p) = p
place_in (Err b) = b.place

-- the place behind a record written, whose code has so many bytes
unfoldable pub written_at : ℕ → Entry → OpenFile → Place
written_at code e f = elim (is_kind compressed e) [ true ↦ behind_new f.here code | false ↦ f.here ]

-- where that is a place: the code fits a sector, and the place before lies in an extent
abbrev pub Reaches : ℕ → Entry → OpenFile → Type 0
Reaches code e f = is_kind compressed e ≡ true → (code ≤ sector) × (f.here.byte ≤ sector) × (f.here.sector < 2 ^ 16)

-- a request that decodes nothing, answered 0
unfoldable pub carried_to : ℕ → Request → Entry → OpenFile → Place
carried_to code Open e f = origin
carried_to code Read e f = origin
carried_to code Write e f = written_at code e f
carried_to code (GranuleRead g) e f = origin
carried_to code (GranuleWrite g) e f = origin
carried_to code (GranuleLook g) e f = origin
carried_to code (Position o) e f = origin

-- and what is then in the buffer
unfoldable pub carried_into : Request → Entry → OpenFile → List ℕ → List ℕ → List ℕ
carried_into Open e f bytes old = old
carried_into Read e f bytes old = old
carried_into Write e f bytes old = old
carried_into (GranuleRead g) e f bytes old = lay old 0 (fixed_at (sight e f bytes) g)
carried_into (GranuleWrite g) e f bytes old = old
carried_into (GranuleLook g) e f bytes old = old
carried_into (Position o) e f bytes old = old

-- what it may count on
abbrev pub CarryOf : Request → ℕ → Entry → OpenFile → ℕ → Type 0
CarryOf Open code e f n = Unit {0}
CarryOf Read code e f n = Unit {0}
CarryOf Write code e f n = Reaches code e f
CarryOf (GranuleRead g) code e f n = (Fixed e g n) × (f.used ≡ true) × (is_kind random e ≡ true)
CarryOf (GranuleWrite g) code e f n = Unit {0}
CarryOf (GranuleLook g) code e f n = Unit {0}
CarryOf (Position o) code e f n = Unit {0}

-- ---- a ruling

-- the answer, the verdict that is made of it and of a place, and what is then in the buffer
unfoldable pub Ruled : Bool → ℕ → ℕ → Request → Scene → List ℕ → Answer → Place → List ℕ → Type 0
Ruled legal files code q c old a p new =
    (a ≡ answer_of legal files (length old) code q c)
    × (verdict_from a q c.number c.entry c.file p ≡ verdict_of legal files (length old) code q c)
    × (new ≡ buffer_next (answer_of legal files (length old) code q c) q c old)
