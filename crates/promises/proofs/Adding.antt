-- A file that is added begins as a tape with no record, or as a row of the granules that lie in its sectors: so it is in the model, and a faithful engine's last
-- report tells the number that the model tells.
use mathlib.Core.Path.{◌≡◌, refl, sym, ap, ◌∙◌}
use mathlib.Core.Bool.{true}
use mathlib.Core.List.{List, [], ◌∷◌, ◌++◌}
use Prim.Native.Nat.{ℕ}
use native.Mathlib.Omega.{arith}
use lib.ListN.{length, length-set, length-map}
use lib.Seq.{get_or-set_same}
use borrow.Author.Tests.{ltb-true}
use Rattle.geometry.specs.Lists.{every}
use Rattle.geometry.specs.Sizes.{entries, sectors_of}
use Rattle.geometry.proofs.Tests.{and_both}
use Rattle.directory.specs.Entries.{table_of}
use Rattle.directory.proofs.Table.{length-table}
use Rattle.shapes.specs.Made.{file_made}
use Rattle.requests.proofs.Edits.{Adds, done-edits}
use Rattle.requests.proofs.Numbers.{same_number}
use Rattle.mounting.specs.Mounting.{mounts}
use Rattle.steps.proofs.Edited.{shape-kind}
use Rattle.tapes.specs.Model.{Model, nothing, Report, model_of, models_of, model_at, model_step, if_done}
use Rattle.tapes.specs.Edits.{Editing, model_free, model_gap, model_edit_facts, edit_answer, model_number, model_made, models_edited, edit_step, model_told, edit_report}
use Rattle.tapes.specs.Runs.{Asking, of_file, of_directory, Heard, step_in, report_in, model_run}
use Rattle.serving.proofs.Edited.{added-tape, added-row}
use Rattle.demands.specs.Engine.{Engine, Standing, edited, edit_report_of, report_for, run, heard, mounted, models_then, are_bytes, gives_bytes, in_bytes}
use Rattle.demands.specs.Demand1.{adding}
use Rattle.demands.specs.Demand2.{Faithful}
use Rattle.promises.specs.Edits.{Begins, Adding}
use Rattle.demands.proofs.Answers.{bytes-more, run-append, same-report}
use Rattle.directory.specs.declared.Entry.{Entry}
use Rattle.requests.specs.declared.Answer.{Answer}
use Rattle.requests.specs.declared.Answer.TheVariants.{Done, Met, Refused}
use Rattle.requests.specs.declared.Edit.TheVariants.{Add}

-- ---- there are as many tapes and rows as entries

length-edited : (a : Answer) (ms : List Model) (n : ℕ) (m : Model) → length (models_edited a ms n m) ≡ length ms
unfolding models_edited
length-edited Done ms n m = length-set ms n m
length-edited (Met x) ms n m = refl
length-edited (Refused x) ms n m = refl

length-step : (ms : List Model) (a : Asking) (lies : List ℕ) → length (step_in ms a lies) ≡ length ms
unfolding step_in model_step edit_step
length-step ms (of_file a) lies = length-set ms _ _
length-step ms (of_directory x) lies = length-edited _ ms _ _

length_run : (hs : List Heard) (ms : List Model) → length (model_run ms hs) ≡ length ms
unfolding model_run
length_run [] ms = refl
length_run (h ∷ hs) ms = length_run hs (step_in ms h.asked h.lies) ∙ length-step ms h.asked h.lies

length-then : (E : Engine) (image : List ℕ) (asked : List Asking) → length (models_then E image asked) ≡ entries
unfolding models_then models_of
length-then E image asked = length_run (heard E (mounted E image) asked) (models_of image) ∙ length-map (table_of image) (model_of image) ∙ length-table image

-- ---- an ADD in the model

module _ (ms : List Model) (many : length ms ≡ entries) (kind size sectors : ℕ) (name lies : List ℕ) (d : edit_answer ms (adding kind size sectors name) lies ≡ Done) where
  abbrev new : Entry
  new = file_made kind size sectors name (model_gap ms (sectors_of lies) sectors)

  allowed : Adds (model_edit_facts (sectors_of lies) ms 0 (Add kind size sectors) name)
  unfolding edit_answer
  allowed = done-edits (Add kind size sectors) _ d

  step-adds : model_at (edit_step ms (adding kind size sectors name) lies) (model_free ms) ≡ model_of lies new
  unfolding edit_step models_edited model_number model_made model_edit_facts
  step-adds = rw (d, models_edited) (get_or-set_same ms (model_free ms) (model_of lies new) nothing (omega (arith, many, ltb-true (model_free ms) entries allowed.entry)))

  adds-begin : Begins new lies (model_of lies new)
  unfolding model_edit_facts file_made
  adds-begin = record {
    sequential = λ few. added-tape lies kind size sectors name (model_gap ms (sectors_of lies) sectors) (shape-kind kind size sectors allowed.shaped).0 few;
    granules = λ is. rw is (added-row lies size sectors name (model_gap ms (sectors_of lies) sectors));
  }

-- ---- in a faithful engine

module _ (E : Engine) (faithful : Faithful E) (image : List ℕ) (ok : mounts image ≡ true) (asked : List Asking) (fit : in_bytes image asked ≡ true)
    (kind size sectors : ℕ) (name : List ℕ) (bytes : are_bytes name ≡ true) where
  abbrev ms : List Model
  ms = models_then E image asked

  abbrev w : Standing E.Session
  w = run E (mounted E image) asked

  abbrev x : Editing
  x = adding kind size sectors name

  last : edit_report_of E w x ≡ edit_report ms x w.image
  unfolding report_for report_in every gives_bytes
  last = same-report E faithful image ok asked (of_directory x) (bytes-more image asked (of_directory x ∷ []) fit (and_both (are_bytes name) true bytes refl))

  answer-same : (edited E w x).answer ≡ edit_answer ms x w.image
  unfolding edit_report_of edit_report
  answer-same = same_number _ _ (ap (λ (r : Report). r.number) last)

  then_is : models_then E image (asked ++ (of_directory x ∷ [])) ≡ edit_step ms x w.image
  unfolding models_then heard model_run step_in
  then_is = run-append E asked (of_directory x ∷ []) (mounted E image) (models_of image)

  module _ (d : (edited E w x).answer ≡ Done) where
    done : edit_answer ms x w.image ≡ Done
    done = sym answer-same ∙ d

    number-told : (edited E w x).told ≡ model_free ms ∷ []
    unfolding edit_report_of edit_report if_done model_told model_number
    number-told = ap (λ (r : Report). r.told) last ∙ ap (λ (a : Answer). if_done a (model_told x.edit (model_number x.edit ms 0))) done

    begins : Begins (new ms (length-then E image asked) kind size sectors name w.image done) w.image (model_at (models_then E image (asked ++ (of_directory x ∷ []))) (model_free ms))
    begins =
        rw (then_is, step-adds ms (length-then E image asked) kind size sectors name w.image done)
        (adds-begin ms (length-then E image asked) kind size sectors name w.image done)

pub adds : (E : Engine) → Faithful E → Adding E
adds E faithful = record {
  begins = λ image ok asked fit w is kind size sectors name bytes d e its.
      let z : (edited E (run E (mounted E image) asked) (adding kind size sectors name)).answer ≡ Done = rw is at d in (
        model_free (models_then E image asked),
        rw is (number-told E faithful image ok asked fit kind size sectors name bytes z),
        rw (its, is) (begins E faithful image ok asked fit kind size sectors name bytes z),
      );
}
