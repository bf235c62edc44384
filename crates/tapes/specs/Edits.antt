-- Document 02, item 1: the RAD Editor's ADD and DELETE on the tapes and rows of an image: what an edit is judged by, what it makes of them and what it tells.
-- Definitions only.
use Rattle.std.specs.Prelude.{Bool, true, false, ◌&&◌, not, List, [], ◌∷◌, map, ℕ, ◌+◌, set, leb, ltb}
use Rattle.geometry.specs.Lists.{every, first_with, same}
use Rattle.geometry.specs.Sizes.{entries, sectors_of}
use Rattle.gaps.specs.Gaps.{lowest_gap}
use Rattle.shapes.specs.Made.{is_named, shape_good, file_made}
use Rattle.requests.specs.Judge.{judge_edit, EditFacts}
use Rattle.requests.specs.Numbers.{number_of}
use Rattle.tapes.specs.Tape.{Shape}
use Rattle.tapes.specs.Model.{Model, nothing, tape, row, model_of, model_at, is_open_model, model_spot, Report, if_done}
use Rattle.requests.specs.declared.Answer.{Answer}
use Rattle.requests.specs.declared.Answer.TheVariants.{Done, Met, Refused}
use Rattle.requests.specs.declared.Edit.{Edit}
use Rattle.requests.specs.declared.Edit.TheVariants.{Add, Delete}

-- an edit, with the entry's number, which DELETE takes, and the bytes given, which ADD takes for the name
pub record Editing : Type 0 where
  pub entry : ℕ
  pub edit : Edit
  pub name : List ℕ

unfoldable pub is_nothing : Model → Bool
is_nothing nothing = true
is_nothing (tape t) = false
is_nothing (row w) = false

module _ {A : Type 0} where
  -- what the shape of a file says; `none` where there is no file
  unfoldable pub of_shape : (Shape → A) → A → Model → A
  of_shape f none nothing = none
  of_shape f none (tape t) = f t.shape
  of_shape f none (row w) = f w.shape

-- whether a file has that name; whether its extent has sector k
unfoldable pub model_named : List ℕ → Model → Bool
model_named name m = of_shape (λ f. same f.name name) false m

unfoldable pub model_has : ℕ → Model → Bool
model_has k m = of_shape (λ f. leb f.first k && ltb k (f.first + f.sectors)) false m

-- sector k is not free: a file has it
unfoldable pub model_taken : List Model → ℕ → Bool
model_taken ms k = not (every (λ m. not (model_has k m)) ms)

-- the lowest entry that is no file's, and where so many free sectors stand first in an image of N
unfoldable pub model_free : List Model → ℕ
model_free ms = first_with is_nothing ms

unfoldable pub model_gap : List Model → ℕ → ℕ → ℕ
model_gap ms N sectors = lowest_gap (model_taken ms) N sectors

-- what an edit is judged by
unfoldable pub model_edit_facts : ℕ → List Model → ℕ → Edit → List ℕ → EditFacts
model_edit_facts N ms i (Add kind length sectors) name = record {
  legal = true;
  refused = false;
  used = false;
  opened = false;
  named = is_named name;
  shaped = shape_good kind length sectors;
  taken = not (every (λ m. not (model_named name m)) ms);
  entry = ltb (model_free ms) entries;
  gap = ltb (model_gap ms N sectors) N;
}
model_edit_facts N ms i Delete name = record {
  legal = true;
  refused = false;
  used = not (is_nothing (model_at ms i));
  opened = is_open_model (model_at ms i);
  named = false;
  shaped = false;
  taken = false;
  entry = false;
  gap = false;
}

-- `lies` is the image as it lies when the edit is asked: of that the model looks at how many sectors there are and, where a file is added, at the sectors
-- that it gets, since a random file shows what lies in them
unfoldable pub edit_answer : List Model → Editing → List ℕ → Answer
edit_answer ms x lies = judge_edit x.edit (model_edit_facts (sectors_of lies) ms x.entry x.edit x.name)

-- which entry an edit is of
unfoldable pub model_number : Edit → List Model → ℕ → ℕ
model_number (Add kind length sectors) ms i = model_free ms
model_number Delete ms i = i

-- what it then is: a file with no record, or with the granules that lie there; none
unfoldable pub model_made : Edit → List Model → List ℕ → List ℕ → Model
model_made (Add kind length sectors) ms name lies = model_of lies (file_made kind length sectors name (model_gap ms (sectors_of lies) sectors))
model_made Delete ms name lies = nothing

unfoldable pub models_edited : Answer → List Model → ℕ → Model → List Model
models_edited Done ms n m = set ms n m
models_edited (Met x) ms n m = ms
models_edited (Refused x) ms n m = ms

unfoldable pub edit_step : List Model → Editing → List ℕ → List Model
edit_step ms x lies = models_edited (edit_answer ms x lies) ms (model_number x.edit ms x.entry) (model_made x.edit ms x.name lies)

-- the new entry's number
unfoldable pub model_told : Edit → ℕ → List ℕ
model_told (Add kind length sectors) n = n ∷ []
model_told Delete n = []

unfoldable pub edit_report : List Model → Editing → List ℕ → Report
edit_report ms x lies = record {
  number = number_of (edit_answer ms x lies);
  told = if_done (edit_answer ms x lies) (model_told x.edit (model_number x.edit ms x.entry));
  buffer = [];
  shown = [];
  spots = map model_spot (edit_step ms x lies);
}
