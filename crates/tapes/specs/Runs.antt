-- Runs of requests and edits, and how the tapes and rows that an image shows run by themselves. Definitions only.
use Rattle.std.specs.Prelude.{true, false, List, [], ◌∷◌, ◌++◌, ℕ, eqb}
use Rattle.geometry.specs.Places.{reach_of}
use Rattle.requests.specs.Numbers.{number_of}
use Rattle.tapes.specs.Model.{Model, Asked, Report, model_at, model_step, model_report, opens_now}
use Rattle.tapes.specs.Edits.{Editing, of_shape, edit_answer, model_number, model_made, edit_step, edit_report}
use Rattle.requests.specs.declared.Edit.{Edit}
use Rattle.requests.specs.declared.Edit.TheVariants.{Add, Delete}

pub data Asking : Type 0 where
  of_file : Asked → Asking
  of_directory : Editing → Asking

-- one of them as the model hears it, with the image as it lies then
pub record Heard : Type 0 where
  pub asked : Asking
  pub lies : List ℕ

unfoldable pub step_in : List Model → Asking → List ℕ → List Model
step_in ms (of_file a) lies = model_step ms a
step_in ms (of_directory x) lies = edit_step ms x lies

unfoldable pub report_in : List Model → Asking → List ℕ → Report
report_in ms (of_file a) lies = model_report ms a
report_in ms (of_directory x) lies = edit_report ms x lies

unfoldable pub model_reports : List Model → List Heard → List Report
model_reports ms [] = []
model_reports ms (h ∷ rest) = report_in ms h.asked h.lies ∷ model_reports (step_in ms h.asked h.lies) rest

unfoldable pub model_run : List Model → List Heard → List Model
model_run ms [] = ms
model_run ms (h ∷ rest) = model_run (step_in ms h.asked h.lies) rest

-- ---- the files "opened, added or deleted" since mounting

-- a file's entry and extent, as they were then; and how many bytes of each sector it may write
pub record Site : Type 0 where
  pub entry : ℕ
  pub first : ℕ
  pub sectors : ℕ
  pub reach : ℕ

unfoldable pub site_of : ℕ → Model → Site
site_of i m =
    of_shape (λ f. record { entry = i; first = f.first; sectors = f.sectors; reach = reach_of f.kind f.record_length })
    (record { entry = i; first = 0; sectors = 0; reach = 0 }) m

-- the file that a request or an edit opens, adds or deletes, if it does: of an adding the new one, of a deleting the old one
unfoldable pub touched_file : Edit → List Model → Editing → List ℕ → Model
touched_file (Add kind length sectors) ms x lies = model_made x.edit ms x.name lies
touched_file Delete ms x lies = model_at ms x.entry

unfoldable pub touched_now : List Model → Asking → List ℕ → List Site
touched_now ms (of_file a) lies = elim (opens_now ms a) [ true ↦ site_of a.entry (model_at ms a.entry) ∷ [] | false ↦ [] ]
touched_now ms (of_directory x) lies = elim (eqb (number_of (edit_answer ms x lies)) 0) [
  | true ↦ site_of (model_number x.edit ms x.entry) (touched_file x.edit ms x lies) ∷ []
  | false ↦ []
]

unfoldable pub touched : List Model → List Heard → List Site
touched ms [] = []
touched ms (h ∷ rest) = touched_now ms h.asked h.lies ++ touched (step_in ms h.asked h.lies) rest
