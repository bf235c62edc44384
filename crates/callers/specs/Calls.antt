-- What C sees of a run of its calls, from a mounting on: each a request by its code, an adding or a deleting, on the image and the session's bytes that the one
-- before it left.
-- Definitions only.
use Rattle.std.specs.Prelude.{◌≡◌, Bool, true, List, [], ◌∷◌, map, ℕ, Some, length}
use Rattle.geometry.specs.Bytes.{part}
use Rattle.geometry.specs.Lists.{numbers_from}
use Rattle.geometry.specs.Sizes.{entries}
use Rattle.mounting.specs.Mounting.{mounts}
use Rattle.requests.specs.Codes.{asked_for}
use Rattle.sessions.specs.Session.{bare, spot_of}
use Rattle.requests.specs.Numbers.{number_of}
use Rattle.steps.specs.Edit.{Edited}
use Rattle.tapes.specs.Model.{Asked, Report, models_of}
use Rattle.tapes.specs.Edits.{Editing}
use Rattle.tapes.specs.Runs.{Asking, of_file, of_directory, Heard, model_reports}
use Rattle.editing.specs.Editing.{edited_in}
use Rattle.storing.specs.Stored.{size_of, lent_session}
use Rattle.looking.specs.Looking.{look_in, look_place}
use Rattle.calling.specs.Mounted.{mount_number, mount_bytes}
use Rattle.asking.specs.Requested.{Left, requested}
use Rattle.demands.specs.Engine.{Standing, if_look, in_bytes}
use Rattle.requests.specs.declared.Edit.{Edit}
use Rattle.requests.specs.declared.Edit.TheVariants.{Add, Delete}
use Rattle.requests.specs.declared.Request.{Request}

-- what the request call answers and leaves
abbrev pub call : Standing (List ℕ) → Asked → Left
call w a = requested w.image w.session a.entry (Some a.request) a.given a.buffer

-- the part of the image that the look call tells
abbrev pub told_by : List ℕ → List ℕ → ℕ → ℕ → List ℕ
told_by image b i g = part image (look_place image b i g 0) (length (look_in image b i g))

-- the number, the buffer, what is shown if a look is asked for, and where the position call then says that each file stands
unfoldable pub call_report : Standing (List ℕ) → Asked → Report
call_report w a = record {
  number = (call w a).number;
  told = [];
  buffer = (call w a).buffer;
  shown = if_look (told_by w.image w.session a.entry) a.request;
  spots = map (spot_of (bare (lent_session (call w a).session))) (numbers_from 0 entries);
}

-- what the adding call and the deleting call answer and leave
unfoldable pub edit_call : Standing (List ℕ) → Editing → Edit → Edited (List ℕ)
edit_call w x (Add kind size sectors) = edited_in w.image w.session 0 (Add kind size sectors) x.name
edit_call w x Delete = edited_in w.image w.session x.entry Delete []

unfoldable pub edit_call_report : Standing (List ℕ) → Editing → Report
edit_call_report w x = record {
  number = number_of (edit_call w x x.edit).answer;
  told = (edit_call w x x.edit).told;
  buffer = [];
  shown = [];
  spots = map (spot_of (bare (lent_session (edit_call w x x.edit).session))) (numbers_from 0 entries);
}

-- either, and what it leaves
unfoldable pub asked_call : Standing (List ℕ) → Asking → Report
asked_call w (of_file a) = call_report w a
asked_call w (of_directory x) = edit_call_report w x

unfoldable pub call_leaves : Standing (List ℕ) → Asking → Standing (List ℕ)
call_leaves w (of_file a) = record { image = (call w a).image; session = (call w a).session }
call_leaves w (of_directory x) = record { image = (edit_call w x x.edit).image; session = (edit_call w x x.edit).session }

unfoldable pub call_reports : Standing (List ℕ) → List Asking → List Report
call_reports w [] = []
call_reports w (a ∷ rest) = asked_call w a ∷ call_reports (call_leaves w a) rest

-- as the tapes and rows hear it
unfoldable pub call_heard : Standing (List ℕ) → List Asking → List Heard
call_heard w [] = []
call_heard w (a ∷ rest) = record { asked = a; lies = w.image } ∷ call_heard (call_leaves w a) rest

-- demand 2, of the calls: a mounting on as many bytes as a session takes, with buffers or without, answers 0, and the run behind it is that of the tapes and
-- rows
pub record Calling : Type 0 where
  pub mounting : (u : Bool) (image b : List ℕ) → length b ≡ size_of u → mounts image ≡ true → mount_number image b ≡ 0
  pub serves : (u : Bool) (image b : List ℕ) → length b ≡ size_of u → mounts image ≡ true → (asked : List Asking) → in_bytes image asked ≡ true
      → call_reports (record { image = image; session = mount_bytes image b }) asked
      ≡ model_reports (models_of image) (call_heard (record { image = image; session = mount_bytes image b }) asked)

-- and every request has a code, by which C names it
pub record Coded : Type 0 where
  pub named : (q : Request) → (code : ℕ) × (g : ℕ) × (asked_for code g ≡ Some q)
