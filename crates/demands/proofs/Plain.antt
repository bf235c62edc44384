-- The plain engine serves the tapes and rows of the mounted image, request by request and edit by edit; and where nothing is open, mounting its image afresh gives the
-- same tapes and rows.
use mathlib.Core.Path.{◌≡◌, refl, sym, ap, ◌∙◌}
use mathlib.Core.Bool.{true}
use mathlib.Core.List.{List, [], ◌∷◌, map}
use Prim.Native.Nat.{ℕ}
use Rattle.std.specs.Prelude.{Option}
use Rattle.geometry.specs.Lists.{numbers_from}
use Rattle.geometry.specs.Sizes.{entries}
use Rattle.requests.specs.Numbers.{number_of}
use Rattle.sessions.specs.Session.{unheld, spot_of}
use Rattle.mounting.specs.Mounting.{mounts, plain_mount}
use Rattle.tapes.specs.Model.{Model, Asked, Report, model_at, models_of, model_spot, model_shown, model_answer, model_step, model_report, if_done, nothing_open}
use Rattle.tapes.specs.Edits.{Editing, edit_step, edit_report}
use Rattle.tapes.specs.Runs.{Asking, of_file, of_directory, step_in, report_in, model_reports, model_run}
use Rattle.serving.proofs.Edited.{edit-answer, edit-told, edit-stands, edit-view}
use Rattle.serving.proofs.Lifting.{Stands}
use Rattle.serving.proofs.Mounted.{mounted-session, mounted-stands, mounted-view, afresh-view, afresh-mounts}
use Rattle.serving.proofs.Step.{asked, answer-step, buffer-step, look-step, view-step, stands-step}
use Rattle.serving.proofs.View.{view-at, shows_at, view, spot-view}
use Rattle.demands.specs.Engine.{plain_engine, Standing, spots_of, if_look, shown_by, answered, step_of, report_of, edited, edit_of, edit_report_of, next, report_for, reports, run, heard, mounted, models_then}
use Rattle.demands.specs.Demand2.{Faithful}
use Rattle.requests.specs.declared.Answer.{Answer}
use Rattle.requests.specs.declared.Answer.TheVariants.{Done, Met, Refused}
use Rattle.requests.specs.declared.Request.{Request}
use Rattle.requests.specs.declared.Request.TheVariants.{Open, Read, Write, GranuleRead, GranuleWrite, GranuleLook, Position}
use Rattle.sessions.specs.declared.Session.{Session}
use Rattle.sessions.specs.declared.Spot.{Spot}

-- ---- one request

map-alike : {A B C : Type 0} (f : A → C) (g : B → C) (h : A → B) → ((x : A) → f x ≡ g (h x)) → (xs : List A) → map f xs ≡ map g (map h xs)
map-alike f g h e [] = refl
map-alike f g h e (x ∷ xs) = rw (e x, map-alike f g h e xs)

pub same-report : (r t : Report) → r.number ≡ t.number → r.told ≡ t.told → r.buffer ≡ t.buffer → r.shown ≡ t.shown → r.spots ≡ t.spots → r ≡ t
same-report r t a e b c d =
    ap (λ (n : ℕ). record { number = n; told = r.told; buffer = r.buffer; shown = r.shown; spots = r.spots }) a
    ∙ ap (λ (x : List ℕ). record { number = t.number; told = x; buffer = r.buffer; shown = r.shown; spots = r.spots }) e
    ∙ ap (λ (x : List ℕ). record { number = t.number; told = t.told; buffer = x; shown = r.shown; spots = r.spots }) b
    ∙ ap (λ (x : List ℕ). record { number = t.number; told = t.told; buffer = t.buffer; shown = x; spots = r.spots }) c
    ∙ ap (λ (x : List (Option Spot)). record { number = t.number; told = t.told; buffer = t.buffer; shown = t.shown; spots = x }) d

-- what is not moved is empty
none_done : (a : Answer) → if_done a [] ≡ []
unfolding if_done
none_done Done = refl
none_done (Met x) = refl
none_done (Refused x) = refl

spots-view : (image : List ℕ) (s : Session) → Stands image s → map (spot_of s) (numbers_from 0 entries) ≡ map model_spot (view image s)
unfolding view
spots-view image s v = map-alike (spot_of s) model_spot (shows_at image s) (λ i. spot-view image s v.ok i (λ u. (v.sound i u).lawful)) (numbers_from 0 entries)

module _ (w : Standing Session) (v : Stands w.image w.session) (a : Asked) where
  abbrev ms : List Model
  ms = view w.image w.session

  abbrev w' : Standing Session
  w' = step_of plain_engine w a

  pub stands-then : Stands w'.image w'.session
  unfolding step_of answered
  stands-then = stands-step w.image w.session v a.entry a.given a.request a.buffer

  pub view_then : view w'.image w'.session ≡ model_step ms a
  unfolding step_of answered
  view_then = view-step w.image w.session v a.entry a.given a.request a.buffer

  shown-then : (i : ℕ) (q : Request) (given buffer : List ℕ)
      → shown_by plain_engine w.image w.session i q ≡ if_done (model_answer ms (asked i q given buffer)) (model_shown q (model_at ms i))
  unfolding if_look model_shown
  shown-then i Open given buffer = sym (none_done _)
  shown-then i Read given buffer = sym (none_done _)
  shown-then i Write given buffer = sym (none_done _)
  shown-then i (GranuleRead g) given buffer = sym (none_done _)
  shown-then i (GranuleWrite g) given buffer = sym (none_done _)
  shown-then i (GranuleLook g) given buffer = look-step w.image w.session v i given g buffer
  shown-then i (Position o) given buffer = sym (none_done _)

  report-then : report_of plain_engine w a ≡ model_report ms a
  unfolding report_of model_report answered spots_of step_of
  report-then =
      same-report _ _
      (ap number_of (answer-step w.image w.session v a.entry a.given a.request a.buffer))
      refl
      (buffer-step w.image w.session v a.entry a.given a.request a.buffer)
      (shown-then a.entry a.request a.given a.buffer)
      (spots-view w'.image w'.session stands-then ∙ ap (map model_spot) view_then)

-- ---- one edit

module _ (w : Standing Session) (v : Stands w.image w.session) (x : Editing) where
  abbrev before : List Model
  before = view w.image w.session

  abbrev behind : Standing Session
  behind = edit_of plain_engine w x

  pub stands-edited : Stands behind.image behind.session
  unfolding edit_of edited
  stands-edited = edit-stands w.image w.session v x.entry x.edit x.name

  pub view-edited : view behind.image behind.session ≡ edit_step before x w.image
  unfolding edit_of edited
  view-edited = edit-view w.image w.session v x.entry x.edit x.name

  report-edited : edit_report_of plain_engine w x ≡ edit_report before x w.image
  unfolding edit_report_of edit_report edited spots_of edit_of
  report-edited =
      same-report _ _
      (ap number_of (edit-answer w.image w.session v x.entry x.edit x.name))
      (edit-told w.image w.session v x.entry x.edit x.name)
      refl
      refl
      (spots-view behind.image behind.session stands-edited ∙ ap (map model_spot) view-edited)

-- ---- whichever is asked

module _ (w : Standing Session) (v : Stands w.image w.session) where
  pub stands-next : (a : Asking) → Stands (next plain_engine w a).image (next plain_engine w a).session
  unfolding next
  stands-next (of_file a) = stands-then w v a
  stands-next (of_directory x) = stands-edited w v x

  pub view-next : (a : Asking) → view (next plain_engine w a).image (next plain_engine w a).session ≡ step_in (view w.image w.session) a w.image
  unfolding next step_in
  view-next (of_file a) = view_then w v a
  view-next (of_directory x) = view-edited w v x

  report-next : (a : Asking) → report_for plain_engine w a ≡ report_in (view w.image w.session) a w.image
  unfolding report_for report_in
  report-next (of_file a) = report-then w v a
  report-next (of_directory x) = report-edited w v x

-- ---- a run

pub run-stands : (asked : List Asking) (w : Standing Session) → Stands w.image w.session
    → Stands (run plain_engine w asked).image (run plain_engine w asked).session
unfolding run
run-stands [] w v = v
run-stands (a ∷ rest) w v = run-stands rest (next plain_engine w a) (stands-next w v a)

pub run-view : (asked : List Asking) (w : Standing Session) → Stands w.image w.session
    → view (run plain_engine w asked).image (run plain_engine w asked).session ≡ model_run (view w.image w.session) (heard plain_engine w asked)
unfolding run model_run heard
run-view [] w v = refl
run-view (a ∷ rest) w v =
    run-view rest (next plain_engine w a) (stands-next w v a) ∙ ap (λ (ms : List Model). model_run ms (heard plain_engine (next plain_engine w a) rest)) (view-next w v a)

pub run-reports : (asked : List Asking) (w : Standing Session) → Stands w.image w.session
    → reports plain_engine w asked ≡ model_reports (view w.image w.session) (heard plain_engine w asked)
unfolding reports model_reports heard
run-reports [] w v = refl
run-reports (a ∷ rest) w v =
    ap (λ (r : Report). r ∷ reports plain_engine (next plain_engine w a) rest) (report-next w v a)
    ∙ ap (λ (rs : List Report). report_in (view w.image w.session) a w.image ∷ rs)
    (run-reports rest (next plain_engine w a) (stands-next w v a) ∙ ap (λ (ms : List Model). model_reports ms (heard plain_engine (next plain_engine w a) rest)) (view-next w v a))

-- ---- from a mounting on

module _ (image : List ℕ) (ok : mounts image ≡ true) where
  pub mount-stands : Stands (mounted plain_engine image).image (mounted plain_engine image).session
  unfolding mounted
  mount-stands = rw (mounted-session image ok) (mounted-stands image ok)

  pub mount-view : view (mounted plain_engine image).image (mounted plain_engine image).session ≡ models_of image
  unfolding mounted
  mount-view = rw (mounted-session image ok) (mounted-view image ok)

  module _ (asked : List Asking) where
    abbrev then : Standing Session
    then = run plain_engine (mounted plain_engine image) asked

    pub then-stands : Stands then.image then.session
    then-stands = run-stands asked (mounted plain_engine image) mount-stands

    pub then-view : view then.image then.session ≡ models_then plain_engine image asked
    unfolding models_then
    then-view = run-view asked (mounted plain_engine image) mount-stands ∙ ap (λ (ms : List Model). model_run ms (heard plain_engine (mounted plain_engine image) asked)) mount-view

    pub then-shows : (i : ℕ) → model_at (models_then plain_engine image asked) i ≡ shows_at then.image then.session i
    then-shows i = ap (λ (ms : List Model). model_at ms i) (sym then-view) ∙ view-at then.image then.session then-stands.many i

    -- "whenever no file is open, mounting the image afresh gives the same tapes, marks and granules"
    pub afresh : nothing_open (models_then plain_engine image asked) ≡ true → (mounts then.image ≡ true) × (models_of then.image ≡ models_then plain_engine image asked)
    afresh none =
        let h : nothing_open (view then.image then.session) ≡ true = rw then-view none in
        (afresh-mounts then.image then.session then-stands h, afresh-view then.image then.session then-stands h ∙ then-view)

pub plain-faithful : Faithful plain_engine
unfolding plain_mount
plain-faithful = record {
  mounting = λ image. refl;
  refused_mounting = λ image e. ap unheld (rw (e, plain_mount));
  serves = λ image ok asked fit.
      run-reports asked (mounted plain_engine image) (mount-stands image ok) ∙ ap (λ (ms : List Model). model_reports ms (heard plain_engine (mounted plain_engine image) asked)) (mount-view image ok);
}
