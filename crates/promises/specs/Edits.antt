-- Document 02, item 1: "We want the RAD Editor's ADD and DELETE": what they do in any session that passes, and which tape or row a file that is added is. As
-- statements over an engine.
use Rattle.std.specs.Prelude.{◌≡◌, Bool, true, false, List, [], ◌∷◌, ◌++◌, ℕ, ◌*◌, ◌≤◌, ◌<◌, replicate}
use Rattle.geometry.specs.Bytes.{part}
use Rattle.geometry.specs.Sizes.{entries, entry_size, random, sectors_of}
use Rattle.directory.specs.Entries.{free_entry, entry_at, is_free, table_of}
use Rattle.gaps.specs.Gaps.{is_taken, stands_free}
use Rattle.shapes.specs.Made.{file_made}
use Rattle.requests.specs.Judge.{Test, unlawful_session, refused_mounting, bad_name, bad_shape, name_in_use, no_free_entry, first_of, EditFacts}
use Rattle.sessions.specs.Session.{bare, file_of, extent}
use Rattle.mounting.specs.Mounting.{mounts}
use Rattle.steps.specs.Edit.{edit_facts}
use Rattle.tapes.specs.Row.{row_of}
use Rattle.tapes.specs.Model.{Model, tape, row, shape_of, Asked, model_at}
use Rattle.tapes.specs.Edits.{model_gap}
use Rattle.tapes.specs.Runs.{Asking, of_directory}
use Rattle.demands.specs.Engine.{Engine, Standing, answered, edited, edit_of, run, mounted, models_then, are_bytes, in_bytes}
use Rattle.demands.specs.Demand1.{Passes, adding, deleting}
use Rattle.directory.specs.declared.Entry.{Entry}
use Rattle.requests.specs.declared.Answer.TheVariants.{Done, Refused}
use Rattle.requests.specs.declared.Edit.TheVariants.{Add}
use Rattle.requests.specs.declared.Refusal.TheVariants.{NotThere, BadImage, NoGap}

-- ---- in any session that passes

abbrev pub table_at : (E : Engine) → Standing E.Session → List Entry
table_at E w = (E.seen w.session).table

-- a "run of that many free sectors exists in 1 to N − 1": from sector p on
abbrev pub runs_free : (E : Engine) → Standing E.Session → ℕ → ℕ → Bool
runs_free E w sectors p = stands_free (is_taken (table_at E w)) (sectors_of w.image) sectors p

-- an ADD between two standings that told n; e is entry n behind it
pub record Lowest (E : Engine) (before behind : Standing E.Session) (kind size sectors : ℕ) (name : List ℕ) (n : ℕ) (e : Entry) : Type 0 where
  -- what was asked for, and it "starts with count and flags 0", in the table and in the image
  pub made : e ≡ file_made kind size sectors name e.first
  pub stored : entry_at (table_of behind.image) n ≡ e
  -- "picks the lowest entry"
  pub entry : (n < entries) × (is_free (entry_at (table_at E before) n) ≡ true) × ((i : ℕ) → i < n → is_free (entry_at (table_at E before) i) ≡ false)
  -- "and the lowest gap that holds the extent"
  pub gap : (runs_free E before sectors e.first ≡ true) × ((p : ℕ) → p < e.first → runs_free E before sectors p ≡ false)

-- ADD's tests before 16, "no gap"
abbrev pub checks_before16 : List (Test EditFacts)
checks_before16 = unlawful_session ∷ refused_mounting ∷ bad_name ∷ bad_shape ∷ name_in_use ∷ no_free_entry ∷ []

pub record Editable (E : Engine) : Type 0 where
  -- an ADD that is answered 0 tells one number, the new entry's
  pub lowest : (w : Standing E.Session) → Passes E w → (kind size sectors : ℕ) (name : List ℕ) → (edited E w (adding kind size sectors name)).answer ≡ Done
      → (behind : Standing E.Session) → behind ≡ edit_of E w (adding kind size sectors name)
      → (n : ℕ) × ((edited E w (adding kind size sectors name)).told ≡ n ∷ []) × Lowest E w behind kind size sectors name n (entry_at (table_at E behind) n)
  -- "It is refused for room exactly when no run of that many free sectors exists in 1 to N − 1": where no test before 16 stops it
  pub room : (w : Standing E.Session) → Passes E w → (kind size sectors : ℕ) (name : List ℕ) (f : EditFacts)
      → f ≡ edit_facts true (sectors_of w.image) (bare (E.seen w.session)) 0 (Add kind size sectors) name
      → first_of checks_before16 f ≡ Done
      → (((p : ℕ) → runs_free E w sectors p ≡ false) → (edited E w (adding kind size sectors name)).answer ≡ Refused NoGap)
      × ((p : ℕ) → runs_free E w sectors p ≡ true → (edited E w (adding kind size sectors name)).answer ≡ Done)
  -- "DELETE zeroes the entry of a file not open, protected or not"
  pub deletes : (w : Standing E.Session) → Passes E w → (i : ℕ) → is_free (entry_at (table_at E w) i) ≡ false
      → (file_of (bare (E.seen w.session)).files i).used ≡ false
      → ((edited E w (deleting i)).answer ≡ Done)
      × (entry_at (table_at E (edit_of E w (deleting i))) i ≡ free_entry)
      × (part (edited E w (deleting i)).image (entry_size * i) entry_size ≡ replicate entry_size 0)
  -- "its sectors are free again for the next ADD", which may be of the same file
  pub again : (w : Standing E.Session) → Passes E w → (i : ℕ) → (edited E w (deleting i)).answer ≡ Done
      → (e : Entry) → e ≡ entry_at (table_at E w) i → (behind : Standing E.Session) → behind ≡ edit_of E w (deleting i)
      → (runs_free E behind e.sectors e.first ≡ true)
      × ((edited E behind (adding e.kind e.length e.sectors e.name)).answer ≡ Done)
  -- "The session from a refused mounting says that it is one": ADD "gives 11 on a session from a refused mounting", whatever is asked for; all else gives 8
  pub from_refused : (w : Standing E.Session) → Passes E w → (E.seen w.session).says.refused ≡ true
      → ((kind size sectors : ℕ) (name : List ℕ) → (edited E w (adding kind size sectors name)).answer ≡ Refused BadImage)
      × ((i : ℕ) → (edited E w (deleting i)).answer ≡ Refused NotThere)
      × ((a : Asked) → (answered E w a).answer ≡ Refused NotThere)

-- ---- demand 2 of a file that is added

-- the file of entry e behind an ADD, with the image as it lay before it: "a tape of records" that has none, not open, at its start; or "a row of granules":
-- a random file that is added shows as granules what lies in its sectors
pub record Begins (e : Entry) (lies : List ℕ) (m : Model) : Type 0 where
  pub sequential : e.kind ≤ 3 → m ≡ tape (record { shape = shape_of e; is_open = false; records = []; position = 0; marked = false; beyond = false })
  pub granules : e.kind ≡ random → m ≡ row (row_of (shape_of e) (extent e lies))

-- of any run from a mounted image, and an ADD behind it that is answered 0
pub record Adding (E : Engine) : Type 0 where
  pub begins : (image : List ℕ) → mounts image ≡ true → (asked : List Asking) → in_bytes image asked ≡ true
      → (w : Standing E.Session) → w ≡ run E (mounted E image) asked
      → (kind size sectors : ℕ) (name : List ℕ) → are_bytes name ≡ true → (edited E w (adding kind size sectors name)).answer ≡ Done
      → (e : Entry) → e ≡ file_made kind size sectors name (model_gap (models_then E image asked) (sectors_of w.image) sectors)
      → (n : ℕ) × ((edited E w (adding kind size sectors name)).told ≡ n ∷ []) × Begins e w.image (model_at (models_then E image (asked ++ (of_directory (adding kind size sectors name) ∷ []))) n)
