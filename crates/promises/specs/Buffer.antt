-- The blocking buffer. Document 01, "The tape a file is": "put back before another sector takes it, before any order but the record skips, and at close,
-- and at no other time"; a read or write "takes each sector that it must read or change, unless held already, and ends holding the one its record lies
-- in, until another is taken or the file is closed". As statements over an engine, for every request and every blocked or compressed file.
use Rattle.std.specs.Prelude.{◌≡◌, Bool, true, false, ◌&&◌, List, [], ◌∷◌, map, ℕ, ◌-◌, ◌*◌, length, replicate, eqb, ltb}
use Rattle.geometry.specs.Bytes.{part, lay, padded}
use Rattle.geometry.specs.Lists.{every}
use Rattle.geometry.specs.Places.{place_of}
use Rattle.geometry.specs.Sizes.{sector, compressed}
use Rattle.coding.specs.Encode.{code_of}
use Rattle.directory.specs.Entries.{entry_at, is_kind}
use Rattle.packing.specs.Placing.{Change, goes_to, changes}
use Rattle.packing.specs.Reading.{start_of, goes_on}
use Rattle.sessions.specs.Session as sessions
use Rattle.sessions.specs.Session.{has_buffer}
use Rattle.steps.specs.Step.{held_of}
use Rattle.tapes.specs.Model.{Asked}
use Rattle.tapes.specs.Edits.{Editing}
use Rattle.demands.specs.Engine.{Engine, Standing, answered, step_of, edit_of, are_bytes, sound}
use Rattle.geometry.specs.declared.Place.{Place}
use Rattle.directory.specs.declared.Entry.{Entry}
use Rattle.requests.specs.declared.Answer.{Answer}
use Rattle.requests.specs.declared.Answer.TheVariants.{Done, Met, Refused}
use Rattle.requests.specs.declared.Order.TheVariants.{WriteMark, RewindOnline, RewindOffline, RecordForward, RecordBack, FileForward, FileBack}
use Rattle.requests.specs.declared.Request.{Request}
use Rattle.requests.specs.declared.Request.TheVariants.{Open, Read, Write, GranuleRead, GranuleWrite, GranuleLook, Position}
use Rattle.sessions.specs.declared.BufferedFile.{BufferedFile}
use Rattle.sessions.specs.declared.OpenFile.{OpenFile}

-- ---- a file's sectors in the image, and its buffer

pub record Desk : Type 0 where
  -- the extent, as the image has it
  pub extent : List ℕ
  -- whether a sector of it is held, which, and whether bytes of it have changed since it was taken or put back
  pub holds : Bool
  pub held : ℕ
  pub changed : Bool
  pub buffer : List ℕ

unfoldable pub desk_of : Entry → List ℕ → BufferedFile → Desk
desk_of e image b = record { extent = sessions.extent e image; holds = b.holds; held = b.held; changed = b.changed; buffer = b.buffer }

-- the extent as the file sees it: the held sector has the buffer's bytes
unfoldable pub seen_on : Desk → List ℕ
seen_on d = elim d.holds [ true ↦ lay d.extent (sector * d.held) d.buffer | false ↦ d.extent ]

-- a changed buffer is put back. "No byte of such a file's extent changes in the image but by a putting back": what follows changes the extent by this alone
unfoldable pub back : Desk → Desk
back d = elim (d.holds && d.changed) [
  | true ↦ record { extent = lay d.extent (sector * d.held) d.buffer; holds = true; held = d.held; changed = false; buffer = d.buffer }
  | false ↦ d
]

-- a sector is taken: "put back before another sector takes it", "unless held already"
unfoldable pub taken : ℕ → Desk → Desk
taken k d = elim (d.holds && eqb d.held k) [
  | true ↦ d
  | false ↦ record { extent = (back d).extent; holds = true; held = k; changed = false; buffer = part (back d).extent (sector * k) sector }
]

-- bytes of a sector change: it "works in the buffer"
unfoldable pub worked : Change → Desk → Desk
worked x d =
    let t : Desk = taken x.place.sector d in
    record { extent = t.extent; holds = true; held = t.held; changed = true; buffer = lay t.buffer x.place.byte x.bytes }

-- the file is closed: it has no buffer, and gets a fresh one when it is opened
unfoldable pub closed : Desk → Desk
closed d = record { extent = d.extent; holds = false; held = 0; changed = false; buffer = replicate sector 0 }

-- one after another
module _ {A : Type 0} (one : A → Desk → Desk) where
  unfoldable pub in_turn : List A → Desk → Desk
  in_turn [] d = d
  in_turn (x ∷ xs) d = in_turn xs (one x d)

-- ---- what a request needs of it

-- the sectors that a read must read: its record's, and before it one whose 128 says go on
unfoldable pub read_in : Entry → OpenFile → List ℕ → List ℕ
read_in e f bytes = elim (is_kind compressed e) [
  | true ↦
      elim (goes_on bytes f.here && ltb f.here.byte sector) [
        | true ↦ f.here.sector ∷ (start_of bytes f.here).sector ∷ []
        | false ↦ (start_of bytes f.here).sector ∷ []
      ]
  | false ↦ (place_of e.kind e.length f.position).sector ∷ []
]

-- the bytes that a write changes. Blocked: "A write puts zero in every byte of the sector behind the record"
unfoldable pub changes_of : Entry → OpenFile → List ℕ → List Change
changes_of e f given = elim (is_kind compressed e) [
  | true ↦ changes f.here (code_of e.length given)
  | false ↦
      let p : Place = place_of e.kind e.length f.position in
      record { place = p; bytes = padded 0 (sector - p.byte) given } ∷ []
]

-- a request on the file that is answered 0
unfoldable pub desk_done : Request → Entry → OpenFile → List ℕ → Desk → Desk
desk_done Open e f given d = d
desk_done Read e f given d = in_turn taken (read_in e f (seen_on d)) d
desk_done Write e f given d = in_turn worked (changes_of e f given) d
desk_done (GranuleRead g) e f given d = d
desk_done (GranuleWrite g) e f given d = d
desk_done (GranuleLook g) e f given d = d
-- "before any order but the record skips, and at close"
desk_done (Position WriteMark) e f given d = back d
desk_done (Position RewindOnline) e f given d = back d
desk_done (Position RewindOffline) e f given d = closed (back d)
desk_done (Position RecordForward) e f given d = d
desk_done (Position RecordBack) e f given d = d
desk_done (Position FileForward) e f given d = back d
desk_done (Position FileBack) e f given d = back d

-- "a request not answered 0 puts nothing back"
unfoldable pub desk_next : Answer → Request → Entry → OpenFile → List ℕ → Desk → Desk
desk_next Done q e f given d = desk_done q e f given d
desk_next (Met x) q e f given d = d
desk_next (Refused x) q e f given d = d

-- the sectors that it takes
unfoldable pub taken_by : Request → Entry → OpenFile → List ℕ → Desk → List ℕ
taken_by Open e f given d = []
taken_by Read e f given d = read_in e f (seen_on d)
taken_by Write e f given d = map (λ x. x.place.sector) (changes_of e f given)
taken_by (GranuleRead g) e f given d = []
taken_by (GranuleWrite g) e f given d = []
taken_by (GranuleLook g) e f given d = []
taken_by (Position o) e f given d = []

-- whether it is an order that puts back first
unfoldable pub puts_back : Request → Bool
puts_back Open = false
puts_back Read = false
puts_back Write = false
puts_back (GranuleRead g) = false
puts_back (GranuleWrite g) = false
puts_back (GranuleLook g) = false
puts_back (Position WriteMark) = true
puts_back (Position RewindOnline) = true
puts_back (Position RewindOffline) = true
puts_back (Position RecordForward) = false
puts_back (Position RecordBack) = false
puts_back (Position FileForward) = true
puts_back (Position FileBack) = true

-- every one of some sectors is the one that is held
abbrev pub within : Desk → List ℕ → Bool
within d ks = every (λ k. d.holds && eqb d.held k) ks

-- ---- in an engine

abbrev pub file_at : (E : Engine) → Standing E.Session → ℕ → BufferedFile
file_at E w i = held_of (E.seen w.session) i

abbrev pub desk_at : (E : Engine) → Standing E.Session → Entry → ℕ → Desk
desk_at E w e i = desk_of e w.image (file_at E w i)

-- entry i is a blocked or compressed file, where the engine stands, and any request is asked
pub record Buffered (E : Engine) (w : Standing E.Session) (a : Asked) (i : ℕ) (e : Entry) : Type 0 where
  pub is_sound : sound w.image (E.seen w.session) ≡ true
  pub bytes : are_bytes a.given ≡ true
  pub its : entry_at (E.seen w.session).table i ≡ e
  pub kind : has_buffer e ≡ true

-- and so where an edit is asked
pub record Keeping (E : Engine) (w : Standing E.Session) (i : ℕ) (e : Entry) : Type 0 where
  pub is_sound : sound w.image (E.seen w.session) ≡ true
  pub its : entry_at (E.seen w.session).table i ≡ e
  pub kind : has_buffer e ≡ true

-- and no sector of it is taken but the one that is held
abbrev pub Keeps : (E : Engine) → Standing E.Session → Asked → ℕ → Entry → Type 0
Keeps E w a i e = within (desk_at E w e i) (taken_by a.request e (file_at E w i).file a.given (desk_at E w e i)) ≡ true

pub record Buffering (E : Engine) : Type 0 where
  -- a request on the file
  pub own : (w : Standing E.Session) (a : Asked) (e : Entry) → Buffered E w a a.entry e
      → desk_at E (step_of E w a) e a.entry ≡ desk_next (answered E w a).answer a.request e (file_at E w a.entry).file a.given (desk_at E w e a.entry)
  -- a request on any other entry
  pub others : (w : Standing E.Session) (a : Asked) (i : ℕ) (e : Entry) → Buffered E w a i e → ¬ (i ≡ a.entry) → desk_at E (step_of E w a) e i ≡ desk_at E w e i
  -- an edit: "Neither puts a buffer back"
  pub edits : (w : Standing E.Session) (x : Editing) (i : ℕ) (e : Entry) → Keeping E w i e → desk_at E (edit_of E w x) e i ≡ desk_at E w e i
  -- "so a write wholly in the held sector leaves the image as it was"; and so does a read in it, an opening, a record skip
  pub inside : (w : Standing E.Session) (a : Asked) (e : Entry) → Buffered E w a a.entry e → puts_back a.request ≡ false
      → Keeps E w a a.entry e → (answered E w a).image ≡ w.image

-- ---- what is held

-- the sector that the record at the position lies in; the one that a new record goes to
unfoldable pub lies_in : Entry → OpenFile → List ℕ → ℕ
lies_in e f bytes = elim (is_kind compressed e) [ true ↦ (start_of bytes f.here).sector | false ↦ (place_of e.kind e.length f.position).sector ]

unfoldable pub goes_in : Entry → OpenFile → List ℕ → ℕ
goes_in e f given = elim (is_kind compressed e) [
  | true ↦ (goes_to f.here (length (code_of e.length given))).sector
  | false ↦ (place_of e.kind e.length f.position).sector
]

abbrev pub Holds : Desk → ℕ → Type 0
Holds d k = (d.holds ≡ true) × (d.held ≡ k)

-- so of every engine whose buffers are as above, whatever is asked of whichever entry
pub record Holding (E : Engine) : Type 0 where
  -- "put back before another sector takes it, before any order but the record skips, and at close, and at no other time"
  pub stays : (w : Standing E.Session) (a : Asked) (i : ℕ) (e : Entry) → Buffered E w a i e → (i ≡ a.entry → (puts_back a.request ≡ false) × Keeps E w a i e)
      → (desk_at E (step_of E w a) e i).extent ≡ (desk_at E w e i).extent
  -- a read or write answered 0 "ends holding the one its record lies in"
  pub reads : (w : Standing E.Session) (a : Asked) (e : Entry) → Buffered E w a a.entry e → a.request ≡ Read → (answered E w a).answer ≡ Done
      → Holds (desk_at E (step_of E w a) e a.entry) (lies_in e (file_at E w a.entry).file (seen_on (desk_at E w e a.entry)))
  pub writes : (w : Standing E.Session) (a : Asked) (e : Entry) → Buffered E w a a.entry e → a.request ≡ Write → (answered E w a).answer ≡ Done
      → Holds (desk_at E (step_of E w a) e a.entry) (goes_in e (file_at E w a.entry).file a.given)
  -- "until another is taken or the file is closed"
  pub until : (w : Standing E.Session) (a : Asked) (i : ℕ) (e : Entry) → Buffered E w a i e → (k : ℕ) → Holds (desk_at E w e i) k
      → (i ≡ a.entry → (¬ (a.request ≡ Position RewindOffline)) × Keeps E w a i e) → Holds (desk_at E (step_of E w a) e i) k
