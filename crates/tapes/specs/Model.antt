-- The tapes and rows that an image shows, and what a request on one of them makes of it and tells. Definitions only.
use Rattle.std.specs.Prelude.{Bool, true, false, ◌&&◌, not, List, [], map, ℕ, length, get_or, set, eqb, Option, None}
use Rattle.geometry.specs.Bytes.{lay}
use Rattle.geometry.specs.Lists.{how_many, every}
use Rattle.geometry.specs.Places.{origin}
use Rattle.geometry.specs.Sizes.{free, random}
use Rattle.directory.specs.Entries.{table_of, is_free, is_kind, is_marked, is_protected}
use Rattle.requests.specs.Judge.{judge}
use Rattle.requests.specs.Numbers.{number_of}
use Rattle.sessions.specs.Session.{at, extent}
use Rattle.tapes.specs.Row.{Row, row_of, row_facts, row_next, granule}
use Rattle.tapes.specs.Tape.{Shape, Tape, tape_of, tape_facts, tape_next, tape_record}
use Rattle.directory.specs.declared.Entry.{Entry}
use Rattle.requests.specs.declared.Answer.{Answer}
use Rattle.requests.specs.declared.Answer.TheVariants.{Done, Met, Refused}
use Rattle.requests.specs.declared.Facts.{Facts}
use Rattle.requests.specs.declared.Request.{Request}
use Rattle.requests.specs.declared.Request.TheVariants.{Open, Read, Write, GranuleRead, GranuleWrite, GranuleLook, Position}
use Rattle.sessions.specs.declared.Spot.{Spot}

-- what an entry is: free, a sequential file, or a random one
pub data Model : Type 0 where
  nothing : Model
  tape : Tape → Model
  row : Row → Model

unfoldable pub shape_of : Entry → Shape
shape_of e = record { name = e.name; kind = e.kind; record_length = e.length; first = e.first; sectors = e.sectors; protected = is_protected e }

unfoldable pub model_of : List ℕ → Entry → Model
model_of image e = elim (is_free e) [
  | true ↦ nothing
  | false ↦ elim (is_kind random e) [
    | true ↦ row (row_of (shape_of e) (extent e image))
    | false ↦ tape (tape_of (shape_of e) (is_marked e) e.count (extent e image))
  ]
]

-- the tapes, marks and granules of an image, by entry number
unfoldable pub models_of : List ℕ → List Model
models_of image = map (model_of image) (table_of image)

unfoldable pub is_open_model : Model → Bool
is_open_model nothing = false
is_open_model (tape t) = t.is_open
is_open_model (row w) = w.is_open

-- where it stands
unfoldable pub model_spot : Model → Option Spot
model_spot nothing = None
model_spot (tape t) = elim t.is_open [ true ↦ at t.position t.beyond | false ↦ None ]
model_spot (row w) = elim w.is_open [ true ↦ at 0 false | false ↦ None ]

-- no such entry: kind 0
abbrev pub no_facts : Facts
no_facts = record {
  legal = true;
  files = 0;
  kind = free;
  length = 0;
  sectors = 0;
  protected = false;
  opened = false;
  position = 0;
  count = 0;
  marked = false;
  beyond = false;
  here = origin;
  bad = false;
  given = 0;
  code = 0;
  buffer = 0;
}

unfoldable pub model_facts : ℕ → List ℕ → ℕ → Model → Facts
model_facts open_files given buffer nothing = no_facts
model_facts open_files given buffer (tape t) = tape_facts open_files given buffer t
model_facts open_files given buffer (row w) = row_facts open_files given buffer w

unfoldable pub model_next : Request → Answer → List ℕ → Model → Model
model_next q a given nothing = nothing
model_next q a given (tape t) = tape (tape_next q a given t)
model_next q a given (row w) = row (row_next q a given w)

unfoldable pub model_record : Model → List ℕ
model_record nothing = []
model_record (tape t) = tape_record t
model_record (row w) = []

unfoldable pub model_granule : ℕ → Model → List ℕ
model_granule g nothing = []
model_granule g (tape t) = []
model_granule g (row w) = granule w g

-- the bytes that a request answered 0 puts into the caller's buffer
unfoldable pub model_into : Request → Model → List ℕ
model_into Open m = []
model_into Read m = model_record m
model_into Write m = []
model_into (GranuleRead g) m = model_granule g m
model_into (GranuleWrite g) m = []
model_into (GranuleLook g) m = []
model_into (Position o) m = []

-- the bytes that it shows in place
unfoldable pub model_shown : Request → Model → List ℕ
model_shown Open m = []
model_shown Read m = []
model_shown Write m = []
model_shown (GranuleRead g) m = []
model_shown (GranuleWrite g) m = []
model_shown (GranuleLook g) m = model_granule g m
model_shown (Position o) m = []

-- ---- a request on a file

-- a request, with the entry's number, the bytes given, and the buffer lent
pub record Asked : Type 0 where
  pub entry : ℕ
  pub request : Request
  pub given : List ℕ
  pub buffer : List ℕ

-- what a caller sees of a request or an edit: the answer's number, the number of an entry that it is told, the buffer behind it, what is shown in place, and
-- where every file then stands
pub record Report : Type 0 where
  pub number : ℕ
  pub told : List ℕ
  pub buffer : List ℕ
  pub shown : List ℕ
  pub spots : List (Option Spot)

unfoldable pub open_models : List Model → ℕ
open_models ms = how_many is_open_model ms

-- the model of that entry number
abbrev pub model_at : List Model → ℕ → Model
model_at ms i = get_or ms i nothing

unfoldable pub model_answer : List Model → Asked → Answer
model_answer ms a = judge a.request (model_facts (open_models ms) a.given (length a.buffer) (model_at ms a.entry))

unfoldable pub model_step : List Model → Asked → List Model
model_step ms a = set ms a.entry (model_next a.request (model_answer ms a) a.given (model_at ms a.entry))

-- bytes move where the answer is 0 only
unfoldable pub if_done : Answer → List ℕ → List ℕ
if_done Done xs = xs
if_done (Met x) xs = []
if_done (Refused x) xs = []

unfoldable pub model_report : List Model → Asked → Report
model_report ms a = record {
  number = number_of (model_answer ms a);
  told = [];
  buffer = lay a.buffer 0 (if_done (model_answer ms a) (model_into a.request (model_at ms a.entry)));
  shown = if_done (model_answer ms a) (model_shown a.request (model_at ms a.entry));
  spots = map model_spot (model_step ms a);
}

unfoldable pub nothing_open : List Model → Bool
nothing_open ms = every (λ m. not (is_open_model m)) ms

-- whether a request opens its file
unfoldable pub is_opening : Request → Bool
is_opening Open = true
is_opening Read = false
is_opening Write = false
is_opening (GranuleRead g) = false
is_opening (GranuleWrite g) = false
is_opening (GranuleLook g) = false
is_opening (Position o) = false

unfoldable pub opens_now : List Model → Asked → Bool
opens_now ms a = is_opening a.request && eqb (number_of (model_answer ms a)) 0
