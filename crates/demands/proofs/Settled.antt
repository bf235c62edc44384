-- A run of the buffered engine, seen with every held buffer laid back, is the plain engine's run: one step is, one edit is, and what they need is kept.
use mathlib.Core.Path.{◌≡◌, refl, sym, ap, ap₂, ◌∙◌, fun_ext}
use mathlib.Core.Bool.{true, false}
use mathlib.Core.List.{List, [], ◌∷◌, map}
use Prim.Native.Nat.{ℕ, ◌<◌}
use lib.ListN.{length-map}
use Rattle.geometry.specs.Lists.{numbers_from}
use Rattle.geometry.specs.Sizes.{entries, lawful_length}
use Rattle.geometry.proofs.Tests.{either, both_ways}
use Rattle.requests.specs.Numbers.{number_of}
use Rattle.sessions.specs.Session.{bare, is_of, file_of, legal, spot_of}
use Rattle.sessions.proofs.Files.{is-of, Finds, opened, closed, finds}
use Rattle.steps.specs.Step.{plain_step}
use Rattle.tapes.specs.Model.{Asked, Report}
use Rattle.tapes.specs.Edits.{Editing}
use Rattle.tapes.specs.Runs.{Asking, of_file, of_directory}
use Rattle.serving.proofs.Keeping.{legal-step}
use Rattle.settling.proofs.Settle.{settle}
use Rattle.steps.proofs.Standing.{held_at, bare-at}
use Rattle.settling.proofs.Kept.{Kept, used-entry, table-length, files-length}
use Rattle.settling.proofs.Scene.{settled-legal}
use Rattle.settling.proofs.Step.{Agrees, step-agrees}
use Rattle.settling.proofs.Edited.{EditAgrees, edit-agrees}
use Rattle.settling.proofs.Look.{look-agrees}
use Rattle.settling.proofs.Begin.{settle-idle, mounted-kept, mounted-settles, mounted-bare}
use Rattle.demands.specs.Engine.{plain_engine, buffered_engine, Standing, spots_of, if_look, shown_by, answered, step_of, report_of, edited, edit_of, edit_report_of, next, report_for, reports, run, mounted}
use Rattle.requests.specs.declared.Request.{Request}
use Rattle.sessions.specs.declared.BufferedSession.{BufferedSession}
use Rattle.sessions.specs.declared.Session.{Session}

-- where the plain engine stands when the buffered one stands so
abbrev pub settled : Standing BufferedSession → Standing Session
settled w = record { image = settle w.image w.session; session = bare w.session }

abbrev pub KeptAt : Standing BufferedSession → Type 0
KeptAt w = Kept w.image w.session

-- where no entry's file is open, no state is in use
nothing-used : (image : List ℕ) (s : BufferedSession) → Kept image s → ((i : ℕ) → i < entries → (file_of (bare s).files i).used ≡ false) → (k : ℕ) → (held_at s k).file.used ≡ false
nothing-used image s ok none k = either (held_at s k).file.used (λ (u : (held_at s k).file.used ≡ true). absurd (go u (finds (bare s).files (held_at s k).file.entry))) (λ u. u)
  where
    go : (held_at s k).file.used ≡ true → Finds (bare s).files (held_at s k).file.entry → ⊥
    go u (opened h p v e b) = both_ways (file_of (bare s).files (held_at s k).file.entry).used v (none (held_at s k).file.entry (used-entry image s ok k u).0)
    go u (closed p h b) = both_ways (is_of (held_at s k).file.entry (held_at s k).file) (is-of (held_at s k).file.entry (held_at s k).file u refl) (ap (is_of (held_at s k).file.entry) (sym (bare-at s k)) ∙ b k)

-- the plain engine keeps every session legal, and so the buffered one keeps what is kept
still-legal : (image : List ℕ) (s : BufferedSession) → Kept image s → (i : ℕ) (q : Request) (given buffer : List ℕ)
    → legal (plain_step (settle image s) (bare s) i q given buffer).image (plain_step (settle image s) (bare s) i q given buffer).session ≡ true
unfolding bare
still-legal image s ok i q given buffer =
    legal-step (settle image s) (bare s) (settled-legal image s ok i) (table-length s ok.is_typed) (length-map s.files (λ b. b.file) ∙ files-length s ok.is_typed) i q given buffer

module _ (w : Standing BufferedSession) (ok : KeptAt w) (a : Asked) where
  pub agrees : Agrees (answered buffered_engine w a) (answered plain_engine (settled w) a)
  unfolding answered
  agrees = step-agrees w.image w.session ok a.entry a.request a.given a.buffer

  pub kept_step : KeptAt (step_of buffered_engine w a)
  unfolding step_of answered
  kept_step = agrees.stays (still-legal w.image w.session ok a.entry a.request a.given a.buffer)

  pub settled-step : settled (step_of buffered_engine w a) ≡ step_of plain_engine (settled w) a
  unfolding step_of
  settled-step = ap₂ (λ (x : List ℕ) (s : Session). record { image = x; session = s }) agrees.image agrees.session

  same-shown : shown_by buffered_engine w.image w.session a.entry a.request ≡ shown_by plain_engine (settled w).image (settled w).session a.entry a.request
  same-shown = ap (λ (look : ℕ → List ℕ). if_look look a.request) (fun_ext (look-agrees w.image w.session ok a.entry))

  same-spots : spots_of buffered_engine (answered buffered_engine w a).session ≡ spots_of plain_engine (answered plain_engine (settled w) a).session
  unfolding spots_of
  same-spots = ap (λ (s : Session). map (spot_of s) (numbers_from 0 entries)) agrees.session

  pub same-report : report_of buffered_engine w a ≡ report_of plain_engine (settled w) a
  unfolding report_of
  same-report = λ j. record {
    number = number_of (agrees.answer j);
    told = [];
    buffer = agrees.buffer j;
    shown = same-shown j;
    spots = same-spots j;
  }

-- ---- an edit

module _ (w : Standing BufferedSession) (ok : KeptAt w) (x : Editing) where
  pub edits-agree : EditAgrees (edited buffered_engine w x) (edited plain_engine (settled w) x)
  unfolding edited
  edits-agree = edit-agrees w.image w.session ok x.entry x.edit x.name

  pub kept-edit : KeptAt (edit_of buffered_engine w x)
  unfolding edit_of edited
  kept-edit = edits-agree.stays

  settled-edit : settled (edit_of buffered_engine w x) ≡ edit_of plain_engine (settled w) x
  unfolding edit_of
  settled-edit = ap₂ (λ (z : List ℕ) (s : Session). record { image = z; session = s }) edits-agree.image edits-agree.session

  same-edit-report : edit_report_of buffered_engine w x ≡ edit_report_of plain_engine (settled w) x
  unfolding edit_report_of spots_of
  same-edit-report = λ j. record {
    number = number_of (edits-agree.answer j);
    told = edits-agree.told j;
    buffer = [];
    shown = [];
    spots = map (spot_of (edits-agree.session j)) (numbers_from 0 entries);
  }

-- ---- whichever is asked

module _ (w : Standing BufferedSession) (ok : KeptAt w) where
  pub kept_next : (a : Asking) → KeptAt (next buffered_engine w a)
  unfolding next
  kept_next (of_file a) = kept_step w ok a
  kept_next (of_directory x) = kept-edit w ok x

  pub settled-next : (a : Asking) → settled (next buffered_engine w a) ≡ next plain_engine (settled w) a
  unfolding next
  settled-next (of_file a) = settled-step w ok a
  settled-next (of_directory x) = settled-edit w ok x

  report-next : (a : Asking) → report_for buffered_engine w a ≡ report_for plain_engine (settled w) a
  unfolding report_for
  report-next (of_file a) = same-report w ok a
  report-next (of_directory x) = same-edit-report w ok x

-- a run from a standing that is kept
pub run-kept : (w : Standing BufferedSession) → KeptAt w → (asked : List Asking) → KeptAt (run buffered_engine w asked)
unfolding run
run-kept w ok [] = ok
run-kept w ok (a ∷ asked) = run-kept (next buffered_engine w a) (kept_next w ok a) asked

pub run_settled : (w : Standing BufferedSession) → KeptAt w → (asked : List Asking) → settled (run buffered_engine w asked) ≡ run plain_engine (settled w) asked
unfolding run
run_settled w ok [] = refl
run_settled w ok (a ∷ asked) =
    run_settled (next buffered_engine w a) (kept_next w ok a) asked ∙ ap (λ (v : Standing Session). run plain_engine v asked) (settled-next w ok a)

pub run-reports : (w : Standing BufferedSession) → KeptAt w → (asked : List Asking) → reports buffered_engine w asked ≡ reports plain_engine (settled w) asked
unfolding reports
run-reports w ok [] = refl
run-reports w ok (a ∷ asked) =
    ap₂ (λ (x : Report) (xs : List Report). x ∷ xs) (report-next w ok a)
    (run-reports (next buffered_engine w a) (kept_next w ok a) asked ∙ ap (λ (v : Standing Session). reports plain_engine v asked) (settled-next w ok a))

-- and from a mounting
module _ (image : List ℕ) (lawful : lawful_length image ≡ true) (asked : List Asking) where
  pub start-kept : KeptAt (mounted buffered_engine image)
  unfolding mounted
  start-kept = mounted-kept image lawful

  pub start-settled : settled (mounted buffered_engine image) ≡ mounted plain_engine image
  unfolding mounted
  start-settled = ap₂ (λ (x : List ℕ) (s : Session). record { image = x; session = s }) (mounted-settles image) (mounted-bare image)

  pub mounted-run-kept : KeptAt (run buffered_engine (mounted buffered_engine image) asked)
  mounted-run-kept = run-kept (mounted buffered_engine image) start-kept asked

  pub mounted-run : settled (run buffered_engine (mounted buffered_engine image) asked) ≡ run plain_engine (mounted plain_engine image) asked
  mounted-run = run_settled (mounted buffered_engine image) start-kept asked ∙ ap (λ (v : Standing Session). run plain_engine v asked) start-settled

  -- "the same answers, bytes and positions"
  pub mounted-reports : reports buffered_engine (mounted buffered_engine image) asked ≡ reports plain_engine (mounted plain_engine image) asked
  mounted-reports = run-reports (mounted buffered_engine image) start-kept asked ∙ ap (λ (v : Standing Session). reports plain_engine v asked) start-settled

  -- "with no file open the images are equal"
  pub idle-images : ((i : ℕ) → i < entries → (file_of (run plain_engine (mounted plain_engine image) asked).session.files i).used ≡ false)
      → (run buffered_engine (mounted buffered_engine image) asked).image ≡ (run plain_engine (mounted plain_engine image) asked).image
  idle-images u =
      let w : Standing BufferedSession = run buffered_engine (mounted buffered_engine image) asked in
      sym (settle-idle w.image w.session (nothing-used w.image w.session mounted-run-kept (rw (← mounted-run) at u)))
      ∙ ap (λ (v : Standing Session). v.image) mounted-run
