-- What an engine is, what a caller sees of it, and a run of requests and edits from a mounted image. The demands are stated over these. Definitions only.
use Rattle.std.specs.Prelude.{Bool, ◌&&◌, List, [], ◌∷◌, map, ℕ, Option}
use Rattle.geometry.specs.Bytes.{is_byte}
use Rattle.geometry.specs.Lists.{every, numbers_from}
use Rattle.geometry.specs.Sizes.{entries}
use Rattle.requests.specs.Numbers.{number_of}
use Rattle.sessions.specs.Session.{bare, unheld, spot_of, typed}
use Rattle.mounting.specs.Mounting.{Mounted, plain_mount, buffered_mount}
use Rattle.steps.specs.Step.{After, plain_step, buffered_step}
use Rattle.steps.specs.Look.{plain_look, buffered_look}
use Rattle.steps.specs.Edit.{Edited, plain_edit, buffered_edit}
use Rattle.tapes.specs.Model.{Model, models_of, Asked, Report}
use Rattle.tapes.specs.Edits.{Editing}
use Rattle.tapes.specs.Runs.{Asking, of_file, of_directory, Heard, model_run}
use Rattle.requests.specs.declared.Edit.{Edit}
use Rattle.requests.specs.declared.Request.{Request}
use Rattle.requests.specs.declared.Request.TheVariants.{Open, Read, Write, GranuleRead, GranuleWrite, GranuleLook, Position}
use Rattle.sessions.specs.declared.Session as plain
use Rattle.sessions.specs.declared.BufferedSession.{BufferedSession}
use Rattle.sessions.specs.declared.Spot.{Spot}

-- an engine: what it mounts, what it answers to a request and to an edit, where its files stand, and what it shows of a granule. `seen` is its session as a reader
-- sees it: a plain one holds no sector
pub record Engine : Type 1 where
  pub Session : Type 0
  pub seen : Session → BufferedSession
  pub mount : List ℕ → Mounted Session
  pub request : List ℕ → Session → ℕ → Request → List ℕ → List ℕ → After Session
  pub edit : List ℕ → Session → ℕ → Edit → List ℕ → Edited Session
  pub position : Session → ℕ → Option Spot
  pub look : List ℕ → Session → ℕ → ℕ → List ℕ

-- ours: one with no buffer, and "one with a blocking buffer for each open file"
abbrev pub plain_engine : Engine
plain_engine = record { Session = plain.Session; seen = unheld; mount = plain_mount; request = plain_step; edit = plain_edit; position = spot_of; look = plain_look }

abbrev pub buffered_engine : Engine
buffered_engine = record {
  Session = BufferedSession;
  seen = λ s. s;
  mount = buffered_mount;
  request = buffered_step;
  edit = buffered_edit;
  position = λ s. spot_of (bare s);
  look = buffered_look;
}

-- an image and a session: where an engine stands
pub record Standing (S : Type 0) : Type 0 where
  pub image : List ℕ
  pub session : S

-- where every file stands
unfoldable pub spots_of : (E : Engine) → E.Session → List (Option Spot)
spots_of E s = map (E.position s) (numbers_from 0 entries)

-- what a look shows, if the request is one
unfoldable pub if_look : (ℕ → List ℕ) → Request → List ℕ
if_look look Open = []
if_look look Read = []
if_look look Write = []
if_look look (GranuleRead g) = []
if_look look (GranuleWrite g) = []
if_look look (GranuleLook g) = look g
if_look look (Position o) = []

abbrev pub shown_by : (E : Engine) → List ℕ → E.Session → ℕ → Request → List ℕ
shown_by E image s i q = if_look (E.look image s i) q

unfoldable pub answered : (E : Engine) → Standing E.Session → Asked → After E.Session
answered E w a = E.request w.image w.session a.entry a.request a.given a.buffer

unfoldable pub step_of : (E : Engine) → Standing E.Session → Asked → Standing E.Session
step_of E w a = record { image = (answered E w a).image; session = (answered E w a).session }

-- what a caller sees of a request on a file
unfoldable pub report_of : (E : Engine) → Standing E.Session → Asked → Report
report_of E w a = record {
  number = number_of (answered E w a).answer;
  told = [];
  buffer = (answered E w a).buffer;
  shown = shown_by E w.image w.session a.entry a.request;
  spots = spots_of E (answered E w a).session;
}

-- and of an edit
unfoldable pub edited : (E : Engine) → Standing E.Session → Editing → Edited E.Session
edited E w x = E.edit w.image w.session x.entry x.edit x.name

unfoldable pub edit_of : (E : Engine) → Standing E.Session → Editing → Standing E.Session
edit_of E w x = record { image = (edited E w x).image; session = (edited E w x).session }

unfoldable pub edit_report_of : (E : Engine) → Standing E.Session → Editing → Report
edit_report_of E w x = record {
  number = number_of (edited E w x).answer;
  told = (edited E w x).told;
  buffer = [];
  shown = [];
  spots = spots_of E (edited E w x).session;
}

unfoldable pub next : (E : Engine) → Standing E.Session → Asking → Standing E.Session
next E w (of_file a) = step_of E w a
next E w (of_directory x) = edit_of E w x

unfoldable pub report_for : (E : Engine) → Standing E.Session → Asking → Report
report_for E w (of_file a) = report_of E w a
report_for E w (of_directory x) = edit_report_of E w x

-- a run: each is asked where the one before it left off
unfoldable pub reports : (E : Engine) → Standing E.Session → List Asking → List Report
reports E w [] = []
reports E w (a ∷ rest) = report_for E w a ∷ reports E (next E w a) rest

unfoldable pub run : (E : Engine) → Standing E.Session → List Asking → Standing E.Session
run E w [] = w
run E w (a ∷ rest) = run E (next E w a) rest

-- the run as the model hears it: each with the image as it lies when it is asked
unfoldable pub heard : (E : Engine) → Standing E.Session → List Asking → List Heard
heard E w [] = []
heard E w (a ∷ rest) = record { asked = a; lies = w.image } ∷ heard E (next E w a) rest

-- a run begins with a mounting
unfoldable pub mounted : (E : Engine) → List ℕ → Standing E.Session
mounted E image = record { image = image; session = (E.mount image).session }

-- what a run from a mounted image makes of its tapes and rows
unfoldable pub models_then : (E : Engine) → List ℕ → List Asking → List Model
models_then E image asked = model_run (models_of image) (heard E (mounted E image) asked)

-- ---- what is lent are bytes, and a session is as its type says

abbrev pub are_bytes : List ℕ → Bool
are_bytes b = every is_byte b

-- requests and edits that are given bytes
unfoldable pub gives_bytes : Asking → Bool
gives_bytes (of_file a) = are_bytes a.given
gives_bytes (of_directory x) = are_bytes x.name

abbrev pub give_bytes : List Asking → Bool
give_bytes asked = every gives_bytes asked

-- an image of bytes, and requests and edits that are given bytes
unfoldable pub in_bytes : List ℕ → List Asking → Bool
in_bytes image asked = are_bytes image && give_bytes asked

-- what the types of src/ say of an image and a session: the image and the buffers are bytes; so many entries, states and bytes of a buffer there are
unfoldable pub sound : List ℕ → BufferedSession → Bool
sound image s = are_bytes image && (typed s && every (λ b. are_bytes b.buffer) s.files)
