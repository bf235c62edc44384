-- A faithful engine answers each request of a run as the tapes and rows do, and moves the same bytes: its last report is theirs.
use mathlib.Core.Path.{◌≡◌, refl, sym, ap, ◌∙◌}
use mathlib.Core.Bool.{true}
use mathlib.Core.List.{List, [], ◌∷◌, ◌++◌, map}
use Prim.Native.Nat.{ℕ, ◌<◌}
use native.Mathlib.Omega.{arith}
use native.Mathlib.Decide.{dec_lt}
use lib.ListN.{length, get_or, set, length-set, get_or-eq_default}
use lib.Seq.{get_or-set_same}
use Rattle.geometry.specs.Bytes.{lay}
use Rattle.geometry.specs.Lists.{every}
use Rattle.geometry.proofs.Tests.{and_left, and_right, and_both}
use Rattle.directory.proofs.Free.{every_append}
use Rattle.requests.proofs.Numbers.{same_number}
use Rattle.mounting.specs.Mounting.{mounts}
use Rattle.tapes.specs.Model.{Model, nothing, Asked, Report, model_at, models_of, model_next, model_into, model_shown, model_answer, model_step, model_report, if_done}
use Rattle.tapes.specs.Runs.{Asking, of_file, step_in, report_in, model_reports, model_run}
use Rattle.demands.specs.Engine.{Engine, Standing, shown_by, answered, report_of, next, report_for, reports, run, heard, mounted, models_then, are_bytes, gives_bytes, give_bytes, in_bytes}
use Rattle.demands.specs.Demand2.{Faithful}
use Rattle.requests.specs.declared.Answer.{Answer}

-- ---- runs in bytes

pub no_bytes : are_bytes [] ≡ true
unfolding every
no_bytes = refl

module _ (image : List ℕ) where
  pub bytes-image : (asked : List Asking) → in_bytes image asked ≡ true → are_bytes image ≡ true
  unfolding in_bytes
  bytes-image asked h = and_left (are_bytes image) (give_bytes asked) h

  pub bytes-given : (asked : List Asking) → in_bytes image asked ≡ true → give_bytes asked ≡ true
  unfolding in_bytes
  bytes-given asked h = and_right (are_bytes image) (give_bytes asked) h

  pub bytes-more : (asked rest : List Asking) → in_bytes image asked ≡ true → give_bytes rest ≡ true → in_bytes image (asked ++ rest) ≡ true
  unfolding in_bytes
  bytes-more asked rest h k =
      and_both (are_bytes image) _ (bytes-image asked h) (every_append gives_bytes asked rest ∙ and_both _ _ (bytes-given asked h) k)

  pub bytes_one : (asked : List Asking) (a : Asked) → in_bytes image asked ≡ true → are_bytes a.given ≡ true → in_bytes image (asked ++ (of_file a ∷ [])) ≡ true
  unfolding every gives_bytes
  bytes_one asked a h k = bytes-more asked (of_file a ∷ []) h (and_both (are_bytes a.given) true k refl)

pub file-bytes : (asked : List Asked) → every (λ a. are_bytes a.given) asked ≡ true → give_bytes (map of_file asked) ≡ true
unfolding every gives_bytes
file-bytes [] h = refl
file-bytes (a ∷ asked) h = and_both (are_bytes a.given) _ (and_left (are_bytes a.given) _ h) (file-bytes asked (and_right (are_bytes a.given) _ h))

-- ---- the last report of a run

last-report : (E : Engine) (asked : List Asking) (a : Asking) (d : Report) (w : Standing E.Session)
    → get_or (reports E w (asked ++ (a ∷ []))) (length asked) d ≡ report_for E (run E w asked) a
unfolding reports run
last-report E [] a d w = refl
last-report E (b ∷ asked) a d w = last-report E asked a d (next E w b)

last-model : (E : Engine) (asked : List Asking) (a : Asking) (d : Report) (w : Standing E.Session) (ms : List Model)
    → get_or (model_reports ms (heard E w (asked ++ (a ∷ [])))) (length asked) d ≡ report_in (model_run ms (heard E w asked)) a (run E w asked).image
unfolding model_reports model_run heard run
last-model E [] a d w ms = refl
last-model E (b ∷ asked) a d w ms = last-model E asked a d (next E w b) (step_in ms b w.image)

-- a run goes on where its first part ends, in the engine and as the model hears it
pub run_more : (E : Engine) (p q : List Asking) (w : Standing E.Session) → run E w (p ++ q) ≡ run E (run E w p) q
unfolding run
run_more E [] q w = refl
run_more E (a ∷ p) q w = run_more E p q (next E w a)

pub run-append : (E : Engine) (p q : List Asking) (w : Standing E.Session) (ms : List Model)
    → model_run ms (heard E w (p ++ q)) ≡ model_run (model_run ms (heard E w p)) (heard E (run E w p) q)
unfolding model_run heard run
run-append E [] q w ms = refl
run-append E (a ∷ p) q w ms = run-append E p q (next E w a) (step_in ms a w.image)

-- requests on files alone, which the model hears as they are asked
unfoldable pub files_run : List Model → List Asked → List Model
files_run ms [] = ms
files_run ms (a ∷ rest) = files_run (model_step ms a) rest

pub files-heard : (E : Engine) (asked : List Asked) (w : Standing E.Session) (ms : List Model) → model_run ms (heard E w (map of_file asked)) ≡ files_run ms asked
unfolding model_run heard files_run step_in
files-heard E [] w ms = refl
files-heard E (a ∷ rest) w ms = files-heard E rest (next E w (of_file a)) (model_step ms a)

-- what a request makes of its own model
pub step-at : (ms : List Model) (a : Asked) (x : Answer) → model_answer ms a ≡ x → model_at (model_step ms a) a.entry ≡ model_next a.request x a.given (model_at ms a.entry)
unfolding model_step
step-at ms a x e = go (dec_lt a.entry (length ms))
  where
    none : ¬ (a.entry < length ms) → model_next a.request x a.given (model_at ms a.entry) ≡ nothing
    none h = unfold model_next in ap (model_next a.request x a.given) (get_or-eq_default ms nothing {n = a.entry} (omega arith))

    go : Dec (a.entry < length ms) → model_at (model_step ms a) a.entry ≡ model_next a.request x a.given (model_at ms a.entry)
    go (yes h) = get_or-set_same ms a.entry _ nothing h ∙ rw e
    go (no h) =
        let l : length (set ms a.entry (model_next a.request (model_answer ms a) a.given (model_at ms a.entry))) ≡ length ms = length-set ms a.entry _ in
        get_or-eq_default (model_step ms a) nothing {n = a.entry} (omega arith) ∙ sym (none h)

module _ (E : Engine) (faithful : Faithful E) (image : List ℕ) (ok : mounts image ≡ true) (asked : List Asking) where
  abbrev ms : List Model
  ms = models_then E image asked

  -- whichever is asked
  pub same-report : (a : Asking) → in_bytes image (asked ++ (a ∷ [])) ≡ true → report_for E (run E (mounted E image) asked) a ≡ report_in ms a (run E (mounted E image) asked).image
  unfolding models_then
  same-report a fit =
      sym (last-report E asked a none (mounted E image))
      ∙ ap (λ (rs : List Report). get_or rs (length asked) none) (faithful.serves image ok (asked ++ (a ∷ [])) fit)
      ∙ last-model E asked a none (mounted E image) (models_of image)
    where
      none : Report
      none = record { number = 0; told = []; buffer = []; shown = []; spots = [] }

  -- a request
  module _ (a : Asked) (fit : in_bytes image (asked ++ (of_file a ∷ [])) ≡ true) where
    pub same_answer : (answered E (run E (mounted E image) asked) a).answer ≡ model_answer ms a
    unfolding report_for report_in report_of model_report
    same_answer = same_number _ _ (ap (λ (r : Report). r.number) (same-report (of_file a) fit))

    pub same-buffer : (answered E (run E (mounted E image) asked) a).buffer ≡ lay a.buffer 0 (if_done (model_answer ms a) (model_into a.request (model_at ms a.entry)))
    unfolding report_for report_in report_of model_report
    same-buffer = ap (λ (r : Report). r.buffer) (same-report (of_file a) fit)

    pub same-shown : shown_by E (run E (mounted E image) asked).image (run E (mounted E image) asked).session a.entry a.request
        ≡ if_done (model_answer ms a) (model_shown a.request (model_at ms a.entry))
    unfolding report_for report_in report_of model_report
    same-shown = ap (λ (r : Report). r.shown) (same-report (of_file a) fit)
